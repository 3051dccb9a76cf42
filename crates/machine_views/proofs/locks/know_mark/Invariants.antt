use Rattle.std.proofs.Common.{◌≡◌, ◌++◌, map, take, drop}
use Rattle.core_events.specs.LockMoves.{mark_known}
use Rattle.machine_views.proofs.locks.know_mark.Given as goal

abbrev pub invariant-loop-held : goal.invariant-loop-held
invariant-loop-held l = l.nodes ≡ map (mark_known l.node l.mark) (take l.held-index l.initial.nodes) ++ drop l.held-index l.initial.nodes
