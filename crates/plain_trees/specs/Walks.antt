-- How a search on plain links begins and goes on: what it claims of the node at which it stands it may claim of the
-- child on the point's side.
use Rattle.std.specs.Prelude.{◌≡◌, ℕ, ◌<◌, Bool, Option, Some, None}
use Rattle.index_words.specs.declared.side.Side.{Side}
use Rattle.index_words.specs.declared.side.Side.TheVariants.{Left, Right}
use Rattle.core_trees.specs.NamedTree.{NamedTree}
use Rattle.core_trees.specs.SpelledTree.{Graph, IsSpelled}
use Rattle.plain_trees.specs.Points.{point_of, IsInTurns}
use Rattle.plain_trees.specs.Matching.{Undone, IsBypassed}
use Rattle.plain_trees.specs.Claims.{IsWaiting, ClaimsInTurns}

-- the turns after a turn to this side at a key
abbrev pub low_turn : Side → ℕ → Option ℕ → Option ℕ
low_turn Left key low = low
low_turn Right key low = Some key

abbrev pub high_turn : Side → ℕ → Option ℕ → Option ℕ
high_turn Left key high = Some key
high_turn Right key high = high

-- a search begins at the child of the root, without turns
abbrev pub BeginLaw : Type 0
BeginLaw =
    (g : Graph) (u : Undone) (waits : ℕ → ℕ → Bool) (plain : NamedTree) → IsSpelled g (g.child Right 0) plain
    → 0 < g.child Right 0 → ClaimsInTurns g (IsBypassed u) (IsWaiting waits) plain None None (g.child Right 0)

-- the key of the node is between the turns' keys, and the search turns there to a child
abbrev pub WalkLaw : Type 0
WalkLaw =
    (g : Graph) (u : Undone) (waits : ℕ → ℕ → Bool) (plain : NamedTree) (low high : Option ℕ) (node key : ℕ) (side : Side)
    → IsSpelled g (g.child Right 0) plain → 0 < node → g.key node ≡ key → IsInTurns low high (point_of key) → 0 < g.child side node
    → ClaimsInTurns g (IsBypassed u) (IsWaiting waits) plain low high node
    → ClaimsInTurns g (IsBypassed u) (IsWaiting waits) plain (low_turn side key low) (high_turn side key high) (g.child side node)
