use Rattle.std.proofs.Common.{ap, ◌∙◌, Err}
use Rattle.core_laws.proofs.Laws.{laws_of}
use Rattle.core_rule.proofs.Refusals.{refused_at}
use Rattle.core_rule.proofs.run.run_of.Goals as goal

pub returns-in-Err-NotAllowed-clause-refused : goal.returns-in-Err-NotAllowed-clause-refused
returns-in-Err-NotAllowed-clause-refused c =
    c.loop-place.invariant.refused
    ∙ refused_at c.loop-place.place c.loop-place.state c.args.events.now c.loop-place.place _ c.loop-place-test.true (c.step.ensures.refused.0 (c.in-Err-NotAllowed.is ∙ ap Err c.in-Err-NotAllowed.field-0-is))

pub returns-clause-trees : goal.returns-clause-trees
returns-clause-trees c = (laws_of _ c.loop-place.invariant.rule).trees

pub returns-clause-selected : goal.returns-clause-selected
returns-clause-selected c = (laws_of _ c.loop-place.invariant.rule).selected

pub returns-clause-remembered : goal.returns-clause-remembered
returns-clause-remembered c = (laws_of _ c.loop-place.invariant.rule).remembered

pub returns-clause-filled : goal.returns-clause-filled
returns-clause-filled c = (laws_of _ c.loop-place.invariant.rule).filled

pub returns-clause-places : goal.returns-clause-places
returns-clause-places c = (laws_of _ c.loop-place.invariant.rule).places
