use Rattle.core_trees.specs.NamedTree.{IsLawful}
use Rattle.core_trees.specs.Shape.{shape}
use Rattle.core_tests.proofs.trees.tree_of.Given as goal

abbrev pub invariant-loop-slot : goal.invariant-loop-slot
invariant-loop-slot l = IsLawful (shape l.tree)
