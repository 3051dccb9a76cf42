-- What lies below a turn of a search in the plain tree.
use Rattle.std.specs.Prelude.{◌≡◌, ℕ, ◌<◌, ◌⊎◌, List, [], ◌∷◌, Bool}
use Rattle.index_words.specs.declared.side.Side.{Side}
use Rattle.index_words.specs.declared.side.Side.TheVariants.{Left, Right}
use Rattle.core_trees.specs.NamedTree.{NamedTree, Null, Branch, IsWithin}
use Rattle.core_trees.specs.Gaps.{child_of}
use Rattle.core_trees.specs.Slots.{occurs}
use Rattle.core_trees.specs.SpelledTree.{Graph, IsSpelled}
use Rattle.plain_trees.specs.Matching.{Undone, IsOut, IsBypassed, Matches}
use Rattle.plain_trees.specs.Reaching.{IsReached}
use Rattle.plain_trees.specs.Stores.{IsStore, IsTest}

-- the node is in the tree, with this key
abbrev pub HasKey : ℕ → ℕ → NamedTree → Type 0
HasKey node key Null = ⊥
HasKey node key (Branch slot k val left right) = ((node ≡ slot) × (key ≡ k)) ⊎ (HasKey node key left ⊎ HasKey node key right)

-- the node, with this key, is below the link on the side of the turn, which has the key `turn_key`
abbrev pub IsBelow : ℕ → ℕ → Side → ℕ → ℕ → NamedTree → Type 0
IsBelow turn turn_key side node key Null = ⊥
IsBelow turn turn_key side node key (Branch slot k val left right) =
    ((turn ≡ slot) × (turn_key ≡ k) × HasKey node key (child_of side left right))
    ⊎ (IsBelow turn turn_key side node key left ⊎ IsBelow turn turn_key side node key right)

-- the key is on the side of the turn's key
abbrev pub IsBeyond : Side → ℕ → ℕ → Type 0
IsBeyond Left turn_key key = key < turn_key
IsBeyond Right turn_key key = turn_key < key

-- A node below a turn that was not taken out has its key beyond the turn's. So a child whose key is not between those
-- of two turns of the plain tree was taken out.
abbrev pub TurnLaw : Type 0
TurnLaw =
    (u : Undone) (parent turn turn_key node key low high : ℕ) (top side : Side) (plain now : NamedTree)
    → Matches u parent top plain now → IsWithin low high now → ¬ IsOut u node
    → IsBelow turn turn_key side node key plain → IsBeyond side turn_key key

-- what is below a turn stays there at each store, unless one of the two goes out
abbrev pub BelowLaw : Type 0
BelowLaw =
    (there : ℕ → Bool) (u : Undone) (n s from until turn turn_key node key : ℕ) (side : Side) (plain plain' : NamedTree)
    → IsStore (IsTest there) (IsBypassed u) n s from until plain plain' → occurs n plain' ≡ 0
    → IsBelow turn turn_key side node key plain
    → IsBelow turn turn_key side node key plain' ⊎ ((occurs turn plain' ≡ 0) ⊎ (occurs node plain' ≡ 0))

-- child links of either side lead from `from` through these nodes to `to`; none of them is in the tree
abbrev pub IsPath : Graph → NamedTree → List ℕ → ℕ → ℕ → Type 0
IsPath g plain [] from to = from ≡ to
IsPath g plain (node ∷ nodes) from to =
    (from ≡ node) × (0 < node) × (occurs node plain ≡ 0)
    × (IsPath g plain nodes (g.child Left node) to ⊎ IsPath g plain nodes (g.child Right node) to)

-- As long as the turn is in the plain tree: wherever such a path from `from` on reaches the tree, it reaches a node
-- below the turn.
abbrev pub LeadsBelow : Graph → NamedTree → ℕ → ℕ → Side → ℕ → Type 0
LeadsBelow g plain turn turn_key side from =
    0 < occurs turn plain → (nodes : List ℕ) (to : ℕ) → IsPath g plain nodes from to → 0 < occurs to plain
    → IsBelow turn turn_key side to (g.key to) plain

-- a search turns at a node, and goes to its child on this side: the child leads below the node
abbrev pub TurnsHereLaw : Type 0
TurnsHereLaw =
    (g : Graph) (plain : NamedTree) (node : ℕ) (side : Side) → IsSpelled g (g.child Right 0) plain → 0 < node → 0 < g.child side node
    → LeadsBelow g plain node (g.key node) side (g.child side node)

-- and below each turn below which the node leads
abbrev pub TurnStaysLaw : Type 0
TurnStaysLaw =
    (g : Graph) (plain : NamedTree) (turn turn_key node : ℕ) (side to : Side) → IsSpelled g (g.child Right 0) plain → 0 < node → 0 < g.child to node
    → LeadsBelow g plain turn turn_key side node → LeadsBelow g plain turn turn_key side (g.child to node)

-- At each store a node still leads below a turn, if the turn is no new node of the plain tree and the node reaches
-- none.
abbrev pub StoreTurnLaw : Type 0
StoreTurnLaw =
    (g g' : Graph) (there : ℕ → Bool) (u : Undone) (n s from until turn turn_key node : ℕ) (side : Side) (plain plain' : NamedTree)
    → IsSpelled g (g.child Right 0) plain → ((m : ℕ) → g'.key m ≡ g.key m)
    → ((m : ℕ) → 0 < m → occurs m plain' ≡ 0 → (top : Side) → g'.child top m ≡ g.child top m)
    → IsStore (IsTest there) (IsBypassed u) n s from until plain plain' → occurs n plain' ≡ 0
    → (0 < occurs turn plain' → 0 < occurs turn plain)
    → ((m : ℕ) → 0 < occurs m plain' → IsReached g node m → 0 < occurs m plain)
    → LeadsBelow g plain turn turn_key side node → LeadsBelow g' plain' turn turn_key side node
