use Rattle.table_steps.specs.Passes.{AtRest}
use Rattle.table_tests.proofs.rows.go.Given as goal

-- between two scenes both passes are at rest
abbrev pub invariant-scenes : goal.invariant-scenes
invariant-scenes g l = AtRest (g.P.TestedPass.view l.zero) × AtRest (g.P.TestedPass.view l.one)
