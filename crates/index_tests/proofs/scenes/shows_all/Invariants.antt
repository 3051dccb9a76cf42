use Rattle.std.proofs.Common.{◌≡◌}
use Rattle.index_tests.proofs.scenes.shows_all.Given as goal

-- the pass is as it was
abbrev pub invariant-pairs : goal.invariant-pairs
invariant-pairs g l = (g.P.KeyPass.view l.pass ≡ g.P.KeyPass.view l.initial.pass) × (g.P.Homed.home l.pass ≡ g.P.Homed.home l.initial.pass)
