use Rattle.std.proofs.Common.{◌≡◌}
use Rattle.index_tests.proofs.passes.lists_twenty.Given as goal

-- the pass is as it was
abbrev pub invariant-loop-i : goal.invariant-loop-i
invariant-loop-i g l = g.P.KeyPass.view l.pass ≡ g.P.KeyPass.view l.initial.pass
