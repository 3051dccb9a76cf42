use Rattle.replay_check.specs.Looking.{AreReadyUpTo}
use Rattle.replay_check.proofs.looking.look_all.Given as goal

-- the clients so far have no line left that is due at the place
abbrev pub invariant-loop-number : goal.invariant-loop-number
invariant-loop-number l = AreReadyUpTo l.basis l.replay.at l.number l.clients
