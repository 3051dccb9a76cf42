use Rattle.std.proofs.Common.{◌≡◌, ◌+◌}
use Rattle.replay_check.specs.Replaying.{IsReplayed}
use Rattle.replay_check.specs.Looking.{AreReadyOn}
use Rattle.replay_check.proofs.looking.first_wrong.Given as goal

-- no line is left that is due at the place of the map
abbrev pub invariant-loop : goal.invariant-loop
invariant-loop l = record {
  place : l.replay.at ≡ l.counter;
  replayed : IsReplayed l.replay l.basis.updates.now l.replay.at;
  ready : AreReadyOn l.basis (l.replay.at + 1) l.clients.items;
}
