use Rattle.std.proofs.Common.{◌≤◌, length}
use Rattle.table_steps.specs.Passes.{IsSamePass}
use Rattle.update_try.specs.Pruning.{GoesPast, KeepsLeast, KeepsUpdate, KeepsWalks}
use Rattle.update_try.proofs.pruning.go_past.Given as goal

abbrev pub invariant-along : goal.invariant-along
invariant-along l =
    ((past : GoesPast l.pass.view l.fn.at l.fn.least l.entry) × (l.passed ≤ length past.1)) × KeepsUpdate l.fn.pass.view l.pass.view × KeepsLeast l.fn.pass.view l.pass.view
    × IsSamePass l.fn.pass l.pass × KeepsWalks l.fn.pass.view l.pass.view
