use Rattle.plan_laws.proofs.Tries.{fill, may_fill_on, slots_some}
use Rattle.plan_laws.proofs.try_laws.tries_fill.Goals as goal

pub returns : goal.returns
returns c = record { slots = slots_some; on = may_fill_on; fill = fill }
