use Rattle.std.proofs.Common.{◌≡◌, None}
use Rattle.path_tests.proofs.plain_pass.have_answers.Given as goal

-- between two rows no snapshot is open
abbrev pub invariant-rows : goal.invariant-rows
invariant-rows g l = (g.P.KeyPass.view l.pass).opened ≡ None
