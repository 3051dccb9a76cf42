use Rattle.std.proofs.Common.{◌≡◌}
use Rattle.table_steps.specs.Passes.{AtRest, IsSamePass}
use Rattle.tree_update.specs.Calls.{StaysOn}
use Rattle.tree_update.proofs.waits.wait_for_more.Given as goal

abbrev pub invariant-looks : goal.invariant-looks
invariant-looks l =
    AtRest l.pass.view × StaysOn l.fn.pass.view l.pass.view × IsSamePass l.fn.pass l.pass × (l.pass.view.counts.waits ≡ l.fn.pass.view.counts.waits)
