use Rattle.std.proofs.Common.{◌≡◌}
use Rattle.pass_slots.proofs.Reversing.{IsTurned}
use Rattle.pass_slots.proofs.own_slots.reverse_first.Given as goal

abbrev pub invariant-loop-i : goal.invariant-loop-i
invariant-loop-i l = IsTurned l.fn.slots.items l.slots.items l.count l.i × (l.slots.cap ≡ l.fn.slots.cap) × (l.slots.len ≡ l.fn.slots.len)
