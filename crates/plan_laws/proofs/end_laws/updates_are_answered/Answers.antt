use Rattle.plan_laws.proofs.Answered.{answer, prepared_owns, four_entries}
use Rattle.plan_laws.proofs.end_laws.updates_are_answered.Goals as goal

pub returns : goal.returns
returns c = record { answer = answer c.ready_plans_may_raise.ensures.plan; prepared = prepared_owns; four = four_entries }
