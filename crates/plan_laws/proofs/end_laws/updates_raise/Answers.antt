use Rattle.plan_laws.proofs.Finals.{finalise_step, finalise_end, mark_start, mark_step, mark_end}
use Rattle.plan_laws.proofs.PlanFronts.{raise_step}
use Rattle.plan_laws.proofs.end_laws.updates_raise.Goals as goal

pub returns : goal.returns
returns c = record { raise = raise_step c.ready_plans_may_raise.ensures.plan; finalise = finalise_step; finalised = finalise_end; mark_start = mark_start; mark = mark_step; marked = mark_end }
