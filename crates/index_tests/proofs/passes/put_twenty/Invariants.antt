use Rattle.std.proofs.Common.{◌≡◌, None}
use Rattle.index_tests.proofs.passes.put_twenty.Given as goal

-- between two puts no snapshot is open
abbrev pub invariant-loop-i : goal.invariant-loop-i
invariant-loop-i g l =
    let view = g.P.KeyPass.view in
    ((view l.pass).opened ≡ None) × ((view l.pass).number ≡ (view l.initial.pass).number) × (g.P.Homed.home l.pass ≡ g.P.Homed.home l.initial.pass)
