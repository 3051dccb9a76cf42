use Rattle.std.proofs.Common.{◌≡◌, ◌++◌, map, take, drop}
use Rattle.core_events.specs.LoadMoves.{found_at}
use Rattle.machine_views.proofs.loads.find_head.Given as goal

abbrev pub invariant-loop-held : goal.invariant-loop-held
invariant-loop-held l = l.nodes ≡ map (found_at l.node l.side l.entry) (take l.held-index l.initial.nodes) ++ drop l.held-index l.initial.nodes
