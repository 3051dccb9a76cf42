use Rattle.std.proofs.Common.{◌≡◌, cond, Some, None, drop}
use Rattle.key_map.specs.Lists.{has}
use Rattle.machine_spelled.proofs.tree_moves.own_slot.Given as goal

abbrev pub invariant-loop-slot : goal.invariant-loop-slot
invariant-loop-slot l = cond (has l.number l.slots) (Some l.number) None ≡ cond (has l.number (drop l.slot-index l.slots)) (Some l.number) None
