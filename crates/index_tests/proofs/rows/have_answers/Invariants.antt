use Rattle.std.proofs.Common.{◌≡◌, None}
use Rattle.index_tests.proofs.rows.have_answers.Given as goal

-- between two rows no snapshot is open
abbrev pub invariant-rows : goal.invariant-rows
invariant-rows g l =
    let view = g.P.KeyPass.view in
    ((view l.pass).opened ≡ None) × ((view l.pass).number ≡ (view l.initial.pass).number) × (g.P.Homed.home l.pass ≡ g.P.Homed.home l.initial.pass)
