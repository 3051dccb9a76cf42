use Rattle.table_steps.specs.Passes.{AtRest}
use Rattle.table_tests.proofs.rows.have_answers.Given as goal

-- between two rows the pass is at rest
abbrev pub invariant-rows : goal.invariant-rows
invariant-rows g l = AtRest (g.P.TestedPass.view l.pass)
