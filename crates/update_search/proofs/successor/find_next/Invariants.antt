use Rattle.table_steps.specs.Passes.{IsSamePass}
use Rattle.update_search.specs.Searching.{KeepsSearch}
use Rattle.update_search.specs.Successors.{IsOnWalk}
use Rattle.update_search.proofs.TurnKeys.{keys_left}
use Rattle.update_search.proofs.Walks.{OnWay}
use Rattle.update_search.proofs.successor.find_next.Given as goal

abbrev pub invariant-left : goal.invariant-left
invariant-left l = IsSamePass l.fn.pass l.pass × KeepsSearch l.fn.pass.view l.pass.view × ((on : IsOnWalk l.fn.pass.view l.fn.walk) → OnWay l.fn.pass.view l.fn.walk on l.pass.view l.walk)

abbrev pub decreases-left : goal.decreases-left
decreases-left l = keys_left l.walk.turns
