-- Searches of a tree for points. A key stands at an even point, so an odd point lies between two neighbouring keys: the
-- search for a successor is one for the point just above the removed key.
use Rattle.std.specs.Prelude.{◌≡◌, ℕ, ◌+◌, ◌<◌, ◌⊎◌, Option, Some, None}
use Rattle.index_words.specs.declared.side.Side.{Side}
use Rattle.index_words.specs.declared.side.Side.TheVariants.{Left, Right}
use Rattle.core_trees.specs.NamedTree.{NamedTree, Null, Branch}

-- the point of a key
abbrev pub point_of : ℕ → ℕ
point_of key = key + key

-- the search for the point meets the node
abbrev pub Meets : ℕ → ℕ → NamedTree → Type 0
Meets x node Null = ⊥
Meets x node (Branch slot key val left right) =
    (node ≡ slot) ⊎ (((x < point_of key) × Meets x node left) ⊎ ((point_of key < x) × Meets x node right))

-- the search for the point ends at the null link of `node` on `side`, in a tree that hangs at the link of `root` on
-- `top`
abbrev pub EndsAtNull : ℕ → ℕ → Side → ℕ → Side → NamedTree → Type 0
EndsAtNull x node side root top Null = (node ≡ root) × (side ≡ top)
EndsAtNull x node side root top (Branch slot key val left right) =
    ((x < point_of key) × EndsAtNull x node side slot Left left) ⊎ ((point_of key < x) × EndsAtNull x node side slot Right right)

-- the point is on the side of the key
abbrev pub IsOn : Side → ℕ → ℕ → Type 0
IsOn Left key x = x < point_of key
IsOn Right key x = point_of key < x

-- A search keeps the keys of the nodes at which it last turned right (`low`) and last turned left (`high`). The point
-- is strictly between the two; a turn that was not made yet is no bound.
abbrev pub IsAbove : Option ℕ → ℕ → Type 0
IsAbove None x = Unit {0}
IsAbove (Some key) x = point_of key < x

abbrev pub IsUnder : Option ℕ → ℕ → Type 0
IsUnder None x = Unit {0}
IsUnder (Some key) x = x < point_of key

abbrev pub IsInTurns : Option ℕ → Option ℕ → ℕ → Type 0
IsInTurns low high x = IsAbove low x × IsUnder high x
