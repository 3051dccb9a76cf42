use Rattle.std.proofs.Common.{◌≡◌, ◌≤◌, []}
use Rattle.core_events.specs.Openings.{from_up}
use Rattle.table_steps.proofs.open.slots_from.Given as goal

abbrev pub invariant-loop-i : goal.invariant-loop-i
invariant-loop-i l = (l.slots.free ≡ from_up l.first l.i) × (l.slots.batch ≡ []) × (l.slots.retired ≡ []) × (l.room ≤ l.slots.room)
