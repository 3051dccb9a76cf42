use Rattle.table_steps.specs.Passes.{AtRest, IsSamePass}
use Rattle.listing_times.proofs.work.put_keys.Given as goal

-- between two puts the pass is at rest
abbrev pub invariant-loop-line : goal.invariant-loop-line
invariant-loop-line g l = IsSamePass l.initial.pass l.pass × AtRest l.pass.view
