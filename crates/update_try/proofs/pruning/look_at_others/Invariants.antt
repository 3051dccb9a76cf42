use Rattle.std.proofs.Common.{◌≡◌, ◌≤◌, Some}
use Rattle.core_grace.specs.Progress.{PassedOthers}
use Rattle.table_steps.specs.Passes.{IsSamePass}
use Rattle.update_try.specs.Pruning.{KeepsPlace, KeepsUpdate}
use Rattle.update_try.proofs.pruning.look_at_others.Given as goal

abbrev pub invariant-others : goal.invariant-others
invariant-others l =
    (l.pass.view.reading.section ≡ l.fn.pass.view.reading.section) × (l.pass.view.reading.least ≡ Some l.number) × (l.number ≤ l.own)
    × PassedOthers l.other l.pass.view.number l.pass.view.reading.looked × KeepsUpdate l.fn.pass.view l.pass.view × KeepsPlace l.fn.pass.view l.pass.view × IsSamePass l.fn.pass l.pass
