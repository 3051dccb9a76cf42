-- How the plain tree, which the plain links spell from the root on, differs from the tree at the stamp. An update takes
-- effect at its raise, and sets the plain links after it; so the two differ at links that are still to be set.
use Rattle.std.specs.Prelude.{◌≡◌, ℕ, ◌<◌, ◌≤◌, ◌⊎◌, Bool, true}
use Rattle.index_words.specs.declared.side.Side.{Side}
use Rattle.index_words.specs.declared.side.Side.TheVariants.{Left, Right}
use Rattle.core_trees.specs.NamedTree.{NamedTree, Null, Branch}
use Rattle.core_trees.specs.Gaps.{IsNull}
use Rattle.plain_trees.specs.Points.{point_of}
use Rattle.plain_trees.specs.Successors.{LeadsTo}

-- What updates that have raised still have to do. `unset parent side was child`: one still has to set the link of
-- `parent` on `side`, from `was` to `child`. If a copy's successor was the right child of the removed node, the copy's
-- right link passes over it from the start; until the copy is linked, that link counts as one to be set from the
-- successor. `out`: an update took the node out of the tree at the stamp. `bypassed`: the node has no left child, and
-- the link to it is still to be set to its right child. `heir removed successor`: a removal took out both, and puts a
-- copy of the successor in the place of the removed node.
pub record Undone : Type 0 where
  pub unset : ℕ → Side → ℕ → ℕ → Bool
  pub out : ℕ → Bool
  pub bypassed : ℕ → Bool
  pub heir : ℕ → ℕ → Bool

abbrev pub IsUnset : Undone → ℕ → Side → ℕ → ℕ → Type 0
IsUnset u parent side was child = u.unset parent side was child ≡ true

abbrev pub IsOut : Undone → ℕ → Type 0
IsOut u node = u.out node ≡ true

abbrev pub IsBypassed : Undone → ℕ → Type 0
IsBypassed u node = u.bypassed node ≡ true

abbrev pub IsHeir : Undone → ℕ → ℕ → Type 0
IsHeir u removed successor = u.heir removed successor ≡ true

-- bypassed nodes and successors were taken out
pub record IsOrderly (u : Undone) : Type 0 where
  pub passes : (node : ℕ) → IsBypassed u node → IsOut u node
  pub heirs : (removed successor : ℕ) → IsHeir u removed successor → IsOut u successor

-- the tree has a top, of which this holds
abbrev pub IsTop : (ℕ → ℕ → NamedTree → NamedTree → Type 0) → NamedTree → Type 0
IsTop told Null = ⊥
IsTop told (Branch slot key val left right) = told slot key left right

abbrev pub AllBelow : ℕ → NamedTree → Type 0
AllBelow bound Null = Unit {0}
AllBelow bound (Branch slot key val left right) = (key < bound) × AllBelow bound left × AllBelow bound right

abbrev pub AllAbove : ℕ → NamedTree → Type 0
AllAbove bound Null = Unit {0}
AllAbove bound (Branch slot key val left right) = (bound < key) × AllAbove bound left × AllAbove bound right

-- each search for a point above the key `from` and at most `until` reaches the successor of the removed node
abbrev pub HasWayAhead : Undone → ℕ → ℕ → ℕ → NamedTree → Type 0
HasWayAhead u removed from until tree =
    (successor : ℕ) × IsHeir u removed successor
    × ((x : ℕ) → point_of from < x → x ≤ point_of until → LeadsTo (IsBypassed u) x successor tree)

-- A node of the plain tree is the same one in the tree at the stamp; or an update took it out, and still has to set the
-- link to it: to a node with the same key, to a copy of its successor, to its right child, or to its left child.
pub data NodeCase (same out replaced copied right left : Type 0) : Type 0 where
  Same : same → NodeCase same out replaced copied right left
  Replaced : out → replaced → NodeCase same out replaced copied right left
  Copied : out → copied → NodeCase same out replaced copied right left
  LiftedRight : out → right → NodeCase same out replaced copied right left
  LiftedLeft : out → left → NodeCase same out replaced copied right left

-- The plain tree matches `now`, the tree at the stamp, at the link of `parent` on `side`. Links are named as they are
-- in the tree at the stamp: below a node that was taken out the plain link is another one.
abbrev pub Matches : Undone → ℕ → Side → NamedTree → NamedTree → Type 0
Matches u parent side Null now = IsNull now ⊎ IsTop (λ m k l r. IsNull l × IsNull r × IsUnset u parent side 0 m) now
Matches u parent side (Branch slot key val left right) now =
    NodeCase
    (IsTop (λ m k l r. (m ≡ slot) × (k ≡ key) × Matches u slot Left left l × Matches u slot Right right r) now)
    (IsOut u slot)
    (IsTop (λ m k l r. (k ≡ key) × IsUnset u parent side slot m × Matches u m Left left l × Matches u m Right right r) now)
    (IsTop (λ m k l r. (key < k) × IsUnset u parent side slot m × AllBelow key l × HasWayAhead u slot key k right
    × Matches u m Left left l × Matches u m Right right r) now)
    (IsBypassed u slot × IsNull left × AllAbove key now × ((m : ℕ) × IsUnset u parent side slot m) × Matches u parent side right now)
    (IsNull right × AllBelow key now × ((m : ℕ) × IsUnset u parent side slot m) × Matches u parent side left now)
