use Rattle.table_steps.specs.Passes.{AtRest, IsSamePass}
use Rattle.index_runs.proofs.turns.look_around.Given as goal

abbrev pub invariant-others : goal.invariant-others
invariant-others l = AtRest l.pass.view × IsSamePass l.fn.seat.key l.pass
