use Rattle.table_steps.specs.Passes.{AtRest}
use Rattle.listing_times.proofs.work.repeat.Given as goal

-- between two turns the pass is at rest
abbrev pub invariant-loop : goal.invariant-loop
invariant-loop g l = AtRest l.pass.view
