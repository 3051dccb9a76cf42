use Rattle.table_steps.specs.Passes.{AtRest, IsSamePass}
use Rattle.index_runs.proofs.turns.take_turns.Given as goal

abbrev pub invariant-turns : goal.invariant-turns
invariant-turns l = AtRest l.pass.view × IsSamePass l.initial.pass l.pass
