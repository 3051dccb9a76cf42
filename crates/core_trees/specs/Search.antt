-- What a search of the tree reaches.
use Rattle.std.specs.Prelude.{◌≡◌, ℕ, nat_lt, Option, Some, None, if◌then◌else◌}
use Rattle.std.specs.Option.{option_or}
use Rattle.key_map.specs.declared.pair.Pair.{Pair}
use Rattle.index_words.specs.declared.side.Side.{Side}
use Rattle.index_words.specs.declared.side.Side.TheVariants.{Left, Right}
use Rattle.key_map.specs.Map.{pair}
use Rattle.core_trees.specs.NamedTree.{NamedTree, Null, Branch}

-- the pair that a search for the first key from `key` on reaches
abbrev pub search_from : ℕ → NamedTree → Option Pair
search_from key Null = None
search_from key (Branch slot k val left right) =
    if nat_lt k key then search_from key right else option_or (search_from key left) (Some (pair k val))

-- The search for a key in a tree that hangs at one link ends at a link: the null link where the key would
-- hang, or the link to the key's node. This is the node of that link, where the tree hangs at `node`.
abbrev pub end_node : ℕ → ℕ → NamedTree → ℕ
end_node key node Null = node
end_node key node (Branch slot k val left right) =
    if nat_lt key k then end_node key slot left else (if nat_lt k key then end_node key slot right else node)

-- and its side, where the tree hangs at the link on `side`
abbrev pub end_side : ℕ → Side → NamedTree → Side
end_side key side Null = side
end_side key side (Branch slot k val left right) =
    if nat_lt key k then end_side key Left left else (if nat_lt k key then end_side key Right right else side)

-- the search for the key ends at the link of `node` on `side`, where the tree hangs at the link of `root`
-- on `top`
abbrev pub EndsAt : ℕ → ℕ → Side → ℕ → Side → NamedTree → Type 0
EndsAt key node side root top tree = (end_node key root tree ≡ node) × (end_side key top tree ≡ side)
