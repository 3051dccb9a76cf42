use Rattle.table_steps.specs.Passes.{AtRest, IsSamePass}
use Rattle.tree_update.specs.Gathering.{Gathers}
use Rattle.tree_update.proofs.gathering.gather_needed.Given as goal

abbrev pub invariant-stretches : goal.invariant-stretches
invariant-stretches l = AtRest l.pass.view × Gathers l.fn.pass.view l.pass.view × IsSamePass l.fn.pass l.pass
