use Rattle.core_invariant.proofs.Passing.{longest_is}
use Rattle.core_invariant.proofs.TreeNow.{tree_is}
use Rattle.core_invariant.proofs.laws.what_the_rule_says.Goals as goal

pub returns : goal.returns
returns c = record { longest = λ z m vs g rule. longest_is z m vs g rule; tree = λ z m vs g rule. tree_is z m vs g rule }
