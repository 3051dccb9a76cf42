-- The named tree: a binary search tree whose nodes are named by the slots that they stand in.
use Rattle.std.specs.Prelude.{ℕ, ◌+◌, ◌^◌, ◌<◌, ◌≤◌, List, [], ◌∷◌, ◌++◌, ◌↔◌}
use Rattle.std.specs.List.{AllByRecursion}
use Rattle.key_map.specs.declared.pair.Pair.{Pair}
use Rattle.key_map.specs.Map.{pair, IsMap}

-- a tree is null, or a node with its slot, its key, its value, and the trees at its left and right link
pub data NamedTree : Type 0 where
  Null : NamedTree
  Branch : ℕ → ℕ → ℕ → NamedTree → NamedTree → NamedTree

-- the pairs of the tree, from left to right
abbrev pub contents : NamedTree → List Pair
contents Null = []
contents (Branch slot key val left right) = contents left ++ pair key val ∷ contents right

-- the keys rise strictly from left to right, each is at least `low`, and each is below `high`
abbrev pub IsWithin : ℕ → ℕ → NamedTree → Type 0
IsWithin low high Null = Unit {0}
IsWithin low high (Branch slot key val left right) =
    (low ≤ key) × (key < high) × IsWithin low key left × IsWithin (key + 1) high right

-- the keys rise strictly from left to right, and each has 64 bits
abbrev pub IsLawful : NamedTree → Type 0
IsLawful tree = IsWithin 0 (2 ^ 64) tree

-- the contents are a map, whose keys have 64 bits
abbrev pub HasMapContents : NamedTree → Type 0
HasMapContents tree = IsMap (contents tree) × AllByRecursion (λ (p : Pair). p.key < 2 ^ 64) (contents tree)

-- a tree is lawful exactly if its contents are a map
abbrev pub LawfulLaw : Type 0
LawfulLaw = (tree : NamedTree) → IsLawful tree ↔ HasMapContents tree
