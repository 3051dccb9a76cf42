use Rattle.std.proofs.Common.{All, arith, subst}
use Rattle.table_steps.specs.Passes.{IsPassOf}
use Rattle.table_tests.proofs.set_up.two_passes.Goals as goal

pub returns-in-Some-clause-first : goal.returns-in-Some-clause-first
returns-in-Some-clause-first c =
    subst (All (IsPassOf c.in_ok-table.table)) c.in-Some.ensures c.in_ok-table.ensures.of 0 c.in-Some.first (omega arith)

pub returns-in-Some-clause-second : goal.returns-in-Some-clause-second
returns-in-Some-clause-second c =
    subst (All (IsPassOf c.in_ok-table.table)) c.in-Some.ensures c.in_ok-table.ensures.of 1 c.in-Some.second (omega arith)
