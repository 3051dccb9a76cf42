use Rattle.std.proofs.Common.{◌≡◌, ◌++◌, map, take, drop}
use Rattle.core_events.specs.LoadMoves.{node_known}
use Rattle.machine_views.proofs.loads.know_stamp.Given as goal

abbrev pub invariant-loop-held : goal.invariant-loop-held
invariant-loop-held l = l.nodes ≡ map (node_known l.entry l.stamp) (take l.held-index l.initial.nodes) ++ drop l.held-index l.initial.nodes
