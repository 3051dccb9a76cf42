-- What a sight sees: the words and views of a table, where some more entries have a number.
use Rattle.std.specs.Prelude.{◌≡◌, ◌<◌, ◌+◌, ℕ, List, ◌++◌, [], Option, Some, None}
use Rattle.key_map.specs.declared.pair.Pair.{Pair}
use Rattle.index_words.specs.Words.{Memory, memory}
use Rattle.core_trees.specs.NamedTree.{NamedTree, Null, Branch}
use Rattle.core_trees.specs.SpelledTree.{Graph}
use Rattle.core_trees.specs.TreeStep.{first_pair}
use Rattle.index_words.specs.declared.word.Field.TheVariants.{Key, Val}
use Rattle.index_words.specs.declared.word.Word.TheVariants.{Node}
use Rattle.machine_spelled.specs.declared.spelled_now.Sight.{Sight}
use Rattle.machine_spelled.specs.declared.subtrees.Subtree.{Subtree}
use Rattle.machine_spelled.specs.declared.subtrees.SeenNode.{SeenNode}
use Rattle.core_events.specs.UpdateMoves.{listed_entry}
use Rattle.core_events.specs.SpelledNow.{graph_now, tree_from}

abbrev pub memory_of : Sight → Memory
memory_of s = memory s.layout.now s.words.now

-- the entries that have a number besides those that have one in the table
abbrev pub more_of : Sight → List ℕ
more_of s = s.pending.now ++ (listed_entry s.left ++ listed_entry s.right)

abbrev pub graph_seen : Sight → Graph
graph_seen s = graph_now (memory_of s) s.views.now (more_of s)

-- the tree from a child on as the table has it
abbrev pub tree_seen : Sight → ℕ → ℕ → NamedTree
tree_seen s depth child = tree_from depth s.layout.now.nodes (graph_now (memory_of s) s.views.now []) child

abbrev pub seen : Sight → Subtree → NamedTree
seen s t = tree_seen s t.depth t.child

-- the node at the top of a subtree, and what is below it
pub record IsTop (s : Sight) (t : Subtree) (n : SeenNode) : Type 0 where
  pub slot : n.slot ≡ t.child
  pub some : 0 < n.slot
  pub key : n.key ≡ memory_of s (Node Key n.slot)
  pub val : n.val ≡ memory_of s (Node Val n.slot)
  pub left : n.left.depth + 1 ≡ t.depth
  pub right : n.right.depth + 1 ≡ t.depth
  pub tree : seen s t ≡ Branch n.slot n.key n.val (seen s n.left) (seen s n.right)

-- the first pair of a tree
abbrev pub first_pair_of : NamedTree → Option Pair
first_pair_of Null = None
first_pair_of (Branch slot key val left right) = Some (first_pair key val left)
