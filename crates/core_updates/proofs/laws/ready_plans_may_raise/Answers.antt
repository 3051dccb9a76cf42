use Rattle.core_updates.proofs.PlansRaise.{plan_may_raise}
use Rattle.core_updates.proofs.laws.ready_plans_may_raise.Goals as goal

pub returns : goal.returns
returns c = record { plan = plan_may_raise c.what_searches_find.ensures.held c.what_searches_find.ensures.null }
