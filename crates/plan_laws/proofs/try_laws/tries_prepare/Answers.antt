use Rattle.plan_laws.proofs.Fronts.{prepare_start, prepare_step, prepare_end}
use Rattle.plan_laws.proofs.try_laws.tries_prepare.Goals as goal

pub returns : goal.returns
returns c = record { start = prepare_start; step = prepare_step; end = prepare_end }
