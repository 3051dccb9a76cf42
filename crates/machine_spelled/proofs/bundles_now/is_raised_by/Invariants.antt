use Rattle.std.proofs.Common.{◌≡◌, nat_le, drop}
use Rattle.core_events.specs.Numbered.{raised_number}
use Rattle.machine_spelled.proofs.bundles_now.is_raised_by.Given as goal

abbrev pub invariant-loop-view : goal.invariant-loop-view
invariant-loop-view l = nat_le (raised_number l.views l.entry) l.number ≡ nat_le (raised_number (drop l.view-index l.views) l.entry) l.number
