-- Trees in the words: at the stamp, and at each number that a seat reads at, the words spell a tree whose
-- contents are the map after so many updates.
use Rattle.std.specs.Prelude.{◌≡◌, ℕ, ◌<◌, List, [], ◌∷◌, ◌++◌}
use Rattle.index_words.specs.declared.side.Side.{Side}
use Rattle.key_map.specs.declared.update.Update.{Update}
use Rattle.index_words.specs.declared.view.reading.TreeNode.{TreeNode}
use Rattle.key_map.specs.History.{after}
use Rattle.core_grace.specs.Holds.{Bundles, tree_slots}
use Rattle.core_links.specs.Bundle.{select, child_of_entry}
use Rattle.core_trees.specs.NamedTree.{NamedTree, Null, Branch, IsLawful, contents}
use Rattle.core_trees.specs.Gaps.{IsInGap}
use Rattle.core_trees.specs.Slots.{occurs}
use Rattle.core_trees.specs.SpelledAt.{IsSpelledAt}

-- the slot of a tree's top, where 0 is none
abbrev pub top_slot : NamedTree → ℕ
top_slot Null = 0
top_slot (Branch slot key val left right) = slot

-- the nodes of a tree in the order of their keys, each with its two children
abbrev pub tree_nodes : NamedTree → List TreeNode
tree_nodes Null = []
tree_nodes (Branch slot key val left right) =
    tree_nodes left ++ record { slot = slot; key = key; val = val; left = top_slot left; right = top_slot right } ∷ tree_nodes right

abbrev pub slots_of : NamedTree → List ℕ
slots_of tree = tree_slots (tree_nodes tree)

-- the words spell the tree at the number `t`, and its contents are the map after the first `t` updates: over
-- what the keys, the values and the children are, the bundles, and the history
pub record IsVersion (key val child : ℕ → ℕ) (b : Bundles) (updates : List Update) (t : ℕ) (tree : NamedTree) : Type 0 where
  pub spelled : IsSpelledAt key val child b.number b.bundle t 0 tree
  pub lawful : IsLawful tree
  pub contents : contents tree ≡ after updates t

-- the link is null, and selected by the same entry, at both numbers
abbrev pub IsNullAtBoth : (ℕ → ℕ) → Bundles → ℕ → ℕ → Side → ℕ → Type 0
IsNullAtBoth child b t s side k =
    (select b.number t (b.bundle side k) ≡ select b.number s (b.bundle side k))
    × (child_of_entry child (select b.number t (b.bundle side k)) ≡ 0)

-- a seat that reads at `t` has the nodes of the tree at `t`. A null link of a node of that tree whose entry is still
-- the selected one at the stamp `s` has as wide a gap in the tree at `s`, or a wider one
pub record ReadsVersion (key val child : ℕ → ℕ) (b : Bundles) (updates : List Update) (s : ℕ) (now : NamedTree) (t : ℕ) (nodes : List TreeNode) : Type 0 where
  pub tree : NamedTree
  pub version : IsVersion key val child b updates t tree
  pub read : nodes ≡ tree_nodes tree
  pub gaps : (k z : ℕ) (side : Side) → 0 < occurs k tree → 0 < occurs k now → IsNullAtBoth child b t s side k
      → IsInGap side (key k) z tree → IsInGap side (key k) z now
