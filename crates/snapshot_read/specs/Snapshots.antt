-- A pass with an open snapshot, and the tree that it reads.
use Rattle.std.specs.Prelude.{◌≡◌, ℕ, ◌<◌, ◌≤◌, List, length, Some}
use Rattle.key_map.specs.declared.pair.Pair.{Pair}
use Rattle.key_map.specs.History.{after}
use Rattle.key_map.specs.Lists.{count}
use Rattle.index_words.specs.declared.view.View.{View}
use Rattle.index_words.specs.declared.view.reading.TreeNode.{TreeNode}
use Rattle.core_trees.specs.NamedTree.{NamedTree, IsLawful, contents}
use Rattle.core_events.specs.LoadMoves.{risen}
use Rattle.core_events.specs.Versions.{slots_of, tree_nodes}
pub use Rattle.plan_laws.specs.Answers.{owned_nodes, owned_entries}
use Rattle.table_steps.specs.Passes.{Extends, Inside}

-- a snapshot is open at this number: the pass is inside a section, with no lock held
pub record ReadsAt (v : View) (t : ℕ) : Type 0 where
  pub opened : v.reading.opened ≡ Some t
  pub inside : Inside v

-- a snapshot is open
abbrev pub IsReading : View → Type 0
IsReading v = (t : ℕ) × ReadsAt v t

-- a search tree with these nodes and these pairs, each node at a slot of the table: from 1 to `slots`
pub record IsTreeOf (slots : ℕ) (nodes : List TreeNode) (pairs : List Pair) (tree : NamedTree) : Type 0 where
  pub nodes_are : nodes ≡ tree_nodes tree
  pub lawful : IsLawful tree
  pub contents_are : contents tree ≡ pairs
  pub some : count 0 (slots_of tree) ≡ 0
  pub there : (k : ℕ) → 0 < count k (slots_of tree) → k ≤ slots

-- the snapshot's tree: the view has its nodes, and its pairs are the map after the first `t` updates
abbrev pub IsSnapshotTree : View → ℕ → NamedTree → Type 0
IsSnapshotTree v t tree = IsTreeOf v.layout.nodes v.reading.tree (after v.history.seen t) tree

-- a snapshot was opened at this number: that of all updates that the pass has seen then, which go on from what it had
-- seen. A look is counted; its own updates, how many it may still make, and how many slots it owns are unchanged
pub record HasBegun (v w : View) (at : ℕ) : Type 0 where
  pub seen : Extends v.history.seen w.history.seen
  pub whole : length w.history.seen ≡ at
  pub found : w.history.found ≡ at
  pub looks : w.history.looks ≡ risen v.history.looks
  pub mine : w.history.mine ≡ v.history.mine
  pub left : w.history.left ≡ v.history.left
  pub nodes : owned_nodes w ≡ owned_nodes v
  pub entries : owned_entries w ≡ owned_entries v
