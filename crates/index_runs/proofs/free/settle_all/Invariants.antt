use Rattle.table_steps.specs.Passes.{AtRest, IsSamePass}
use Rattle.index_runs.proofs.free.settle_all.Given as goal

abbrev pub invariant-tries : goal.invariant-tries
invariant-tries l = AtRest l.pass.view × IsSamePass l.initial.pass l.pass
