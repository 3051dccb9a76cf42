use Rattle.core_updates.proofs.PlanLocks.{locks_law}
use Rattle.core_updates.proofs.PlanSteps.{events_law, failures_law}
use Rattle.core_updates.proofs.laws.plans_are_carried_out.Goals as goal

pub returns : goal.returns
returns c = record { locks = locks_law; events = events_law; failures = failures_law c.where_counts_rise.ensures.counts c.what_searches_find.ensures.own }
