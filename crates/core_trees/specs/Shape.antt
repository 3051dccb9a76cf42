-- The named tree that a `Tree` holds.
use Rattle.core_trees.specs.declared.tree.Tree.{Tree, Empty, Node'}
use Rattle.core_trees.specs.NamedTree.{NamedTree, Null, Branch}

abbrev pub shape : Tree → NamedTree
shape Empty = Null
shape (Node' place slot key val left right) = Branch slot key val (shape left) (shape right)
