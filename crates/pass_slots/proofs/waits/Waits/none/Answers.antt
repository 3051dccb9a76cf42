use Rattle.pass_slots.proofs.Looks.{none_kept}
use Rattle.pass_slots.proofs.waits.Waits.none.Goals as goal

pub returns : goal.returns
returns c = none_kept

pub invariant_of-result : goal.invariant_of-result
invariant_of-result c fresh = none_kept
