use Rattle.std.proofs.Common.{◌≡◌, ◌++◌, map, take, drop}
use Rattle.core_events.specs.UpdateMoves.{known_at}
use Rattle.machine_views.proofs.loads.know_head.Given as goal

abbrev pub invariant-loop-held : goal.invariant-loop-held
invariant-loop-held l = l.nodes ≡ map (known_at l.node l.side l.head) (take l.held-index l.initial.nodes) ++ drop l.held-index l.initial.nodes
