use Rattle.std.proofs.Common.{refl}
use Rattle.request_lines.proofs.Interned.{one_number_more}
use Rattle.request_lines.proofs.leads.with_numbers.Goals as goal

pub loop-number-preserved : goal.loop-number-preserved
loop-number-preserved c = rw c.in_ok-push.ensures.items (one_number_more c.loop-number.entries.items _ c.loop-number.number c.loop-number.invariant refl)
