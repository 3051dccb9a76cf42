use Rattle.core_trees.proofs.Links.Steps.{grow_by_link, replace_by_link, lift_by_link}
use Rattle.core_trees.proofs.Links.JoinNear.{join_near}
use Rattle.core_trees.proofs.Links.JoinDeep.{join_deep}
use Rattle.core_updates.proofs.laws.links_spell_the_step.Goals as goal

pub returns-clause-grow : goal.returns-clause-grow
returns-clause-grow c = grow_by_link

pub returns-clause-replace : goal.returns-clause-replace
returns-clause-replace c = replace_by_link

pub returns-clause-lift : goal.returns-clause-lift
returns-clause-lift c = lift_by_link

pub returns-clause-join_near : goal.returns-clause-join_near
returns-clause-join_near c = join_near

pub returns-clause-join_deep : goal.returns-clause-join_deep
returns-clause-join_deep c = join_deep
