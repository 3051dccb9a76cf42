-- The tree that is spelled at one number: each link's child is the one that the number selects in the link's
-- bundle.
use Rattle.std.specs.Prelude.{◌≡◌, ℕ, ◌<◌, ◌⊎◌, List}
use Rattle.index_words.specs.declared.side.Side.{Side}
use Rattle.index_words.specs.declared.side.Side.TheVariants.{Right}
use Rattle.core_links.specs.Bundle.{select, child_of_entry}
use Rattle.core_trees.specs.NamedTree.{NamedTree}
use Rattle.core_trees.specs.Slots.{occurs}
use Rattle.core_trees.specs.SpelledTree.{Graph, IsSpelled}

-- what is read at the number `t`, from the keys and values of the nodes, the children and numbers of the
-- entries, and the entries of each link's bundle
abbrev pub graph_at : (ℕ → ℕ) → (ℕ → ℕ) → (ℕ → ℕ) → (ℕ → ℕ) → (Side → ℕ → List ℕ) → ℕ → Graph
graph_at key val ptr number bundle t = record {
  key = key;
  val = val;
  child = λ side node. child_of_entry ptr (select number t (bundle side node));
}

-- the tree is spelled at the number `t`: its top is the child at the root's right link
abbrev pub IsSpelledAt : (ℕ → ℕ) → (ℕ → ℕ) → (ℕ → ℕ) → (ℕ → ℕ) → (Side → ℕ → List ℕ) → ℕ → ℕ → NamedTree → Type 0
IsSpelledAt key val ptr number bundle t root tree =
    IsSpelled (graph_at key val ptr number bundle t) ((graph_at key val ptr number bundle t).child Right root) tree

-- a tree stays spelled at a number if that number selects the same entry at each link of the root and of the tree's
-- nodes
abbrev pub VersionLaw : Type 0
VersionLaw =
    (key val ptr number number' : ℕ → ℕ) (bundle bundle' : Side → ℕ → List ℕ) (t root : ℕ) (tree : NamedTree)
    → ((x : ℕ) → (x ≡ root) ⊎ (0 < occurs x tree) → (side : Side) → select number t (bundle side x) ≡ select number' t (bundle' side x))
    → IsSpelledAt key val ptr number bundle t root tree → IsSpelledAt key val ptr number' bundle' t root tree
