use Rattle.std.proofs.Common.{◌<◌, ℕ}
use Rattle.table_steps.specs.Passes.{AtRest, IsSamePass}
use Rattle.tree_update.specs.Settles.{IsTaking, IsDoneWith, KeepsFound}
use Rattle.tree_update.proofs.settle.try_settle.Given as goal

abbrev pub invariant-passes : goal.invariant-passes
invariant-passes l = AtRest l.pass.view × IsTaking l.fn.pass.view l.pass.view × KeepsFound l.fn.pass.view l.pass.view × IsSamePass l.fn.pass l.pass × ((n : ℕ) → n < l.other → IsDoneWith n l.pass.view)
