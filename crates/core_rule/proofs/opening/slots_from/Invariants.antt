use Rattle.std.proofs.Common.{◌≡◌}
use Rattle.core_events.specs.Openings.{from_up}
use Rattle.core_rule.proofs.opening.slots_from.Given as goal

abbrev pub invariant-loop-i : goal.invariant-loop-i
invariant-loop-i l = l.slots ≡ from_up l.first l.i
