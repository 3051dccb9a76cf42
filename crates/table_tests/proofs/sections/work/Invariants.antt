use Rattle.table_steps.specs.Passes.{IsPassOf, AtRest}
use Rattle.table_tests.proofs.sections.work.Given as goal

abbrev pub invariant-loop : goal.invariant-loop
invariant-loop l = AtRest l.pass.view × IsPassOf l.table l.pass
