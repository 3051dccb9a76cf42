use Rattle.table_steps.specs.Passes.{IsSamePass}
use Rattle.update_search.specs.Searching.{KeepsSearch}
use Rattle.update_search.proofs.Levels.{GoesOn}
use Rattle.update_search.proofs.TurnKeys.{IsBetween, keys_left}
use Rattle.update_search.proofs.TurnNodes.{Begins}
use Rattle.update_search.proofs.descent.find_end.Given as goal

abbrev pub invariant-down : goal.invariant-down
invariant-down l = IsSamePass l.fn.pass l.pass × KeepsSearch l.fn.pass.view l.pass.view × GoesOn l.pass.view l.at l.turns × IsBetween l.turns l.fn.key × Begins l.turns l.at.node

abbrev pub decreases-down : goal.decreases-down
decreases-down l = keys_left l.turns
