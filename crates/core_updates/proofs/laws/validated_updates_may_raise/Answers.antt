use Rattle.core_updates.proofs.HeldReady.{grow_from_view, replace_from_view, lift_from_view, join_from_view}
use Rattle.core_updates.proofs.laws.validated_updates_may_raise.Goals as goal

pub returns-clause-grow : goal.returns-clause-grow
returns-clause-grow c = grow_from_view c.what_searches_find.ensures.held c.what_searches_find.ensures.null

pub returns-clause-replace : goal.returns-clause-replace
returns-clause-replace c = replace_from_view c.what_searches_find.ensures.held c.what_searches_find.ensures.null

pub returns-clause-lift : goal.returns-clause-lift
returns-clause-lift c = lift_from_view c.what_searches_find.ensures.held c.what_searches_find.ensures.null

pub returns-clause-join : goal.returns-clause-join
returns-clause-join c = join_from_view c.what_searches_find.ensures.held c.what_searches_find.ensures.null
