use Rattle.std.proofs.Common.{◌≡◌, take}
use Rattle.core_updates.proofs.planned.nodes.Given as goal

abbrev pub invariant-loop-node : goal.invariant-loop-node
invariant-loop-node g l = l.list.items ≡ take l.node-index l.nodes
