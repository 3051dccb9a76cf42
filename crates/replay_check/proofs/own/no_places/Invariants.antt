use Rattle.std.proofs.Common.{◌≡◌, map, take}
use Rattle.replay_check.proofs.Starting.{no_updates}
use Rattle.replay_check.proofs.own.no_places.Given as goal

abbrev pub invariant-loop-part : goal.invariant-loop-part
invariant-loop-part l = l.tables.items ≡ map no_updates (take l.part-index l.part-items)
