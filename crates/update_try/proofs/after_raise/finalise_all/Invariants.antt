use Rattle.std.proofs.Common.{◌≡◌, ℕ}
use Rattle.plan_laws.specs.Frames.{KeepsOwned}
use Rattle.plan_laws.specs.Raises.{HasFinalised}
use Rattle.table_steps.specs.Passes.{IsSamePass}
use Rattle.update_try.proofs.after_raise.finalise_all.Given as goal

abbrev pub invariant-entries : goal.invariant-entries
invariant-entries l =
    ((at : ℕ) × HasFinalised l.pass.view l.fn.pass.number l.plan l.slots at l.entry-index) × KeepsOwned l.fn.pass.view l.pass.view × IsSamePass l.fn.pass l.pass
    × (l.pass.view.reading ≡ l.fn.pass.view.reading)
