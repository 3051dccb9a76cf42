use Rattle.core_updates.proofs.MayRaise.{may_grow, may_replace, may_lift, may_join}
use Rattle.core_updates.proofs.laws.ready_updates_may_raise.Goals as goal

pub returns-clause-grow : goal.returns-clause-grow
returns-clause-grow c = may_grow

pub returns-clause-replace : goal.returns-clause-replace
returns-clause-replace c = may_replace

pub returns-clause-lift : goal.returns-clause-lift
returns-clause-lift c = may_lift

pub returns-clause-join : goal.returns-clause-join
returns-clause-join c = may_join
