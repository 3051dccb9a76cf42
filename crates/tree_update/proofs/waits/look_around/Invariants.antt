use Rattle.std.proofs.Common.{◌≡◌, ◌≤◌, true}
use Rattle.std.specs.Prelude.{is_some}
use Rattle.table_steps.specs.Passes.{Inside, IsSamePass}
use Rattle.tree_update.specs.Calls.{StaysOn}
use Rattle.tree_update.proofs.waits.look_around.Given as goal

abbrev pub invariant-others : goal.invariant-others
invariant-others l =
    Inside l.pass.view × (is_some l.pass.view.reading.section ≡ true) × StaysOn l.fn.pass.view l.pass.view × IsSamePass l.fn.pass l.pass × (l.least ≤ l.own)
    × (l.pass.view.counts.waits ≡ l.fn.pass.view.counts.waits)
