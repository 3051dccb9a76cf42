-- What a raise does: the tree at the stamp makes its step, and the plain tree stays. The two match after it as before.
use Rattle.std.specs.Prelude.{◌≡◌, ℕ, ◌<◌, ◌≤◌, ◌⊎◌}
use Rattle.index_words.specs.declared.side.Side.{Side}
use Rattle.index_words.specs.declared.side.Side.TheVariants.{Left, Right}
use Rattle.core_trees.specs.NamedTree.{NamedTree, Null, Branch, IsWithin, IsLawful}
use Rattle.core_trees.specs.Gaps.{IsNull}
use Rattle.core_trees.specs.TreeStep.{subtree_at, tree_put, tree_remove}
use Rattle.plain_trees.specs.Points.{point_of, EndsAtNull}
use Rattle.plain_trees.specs.Successors.{LeadsTo}
use Rattle.plain_trees.specs.Matching.{Undone, IsUnset, IsOut, IsBypassed, IsHeir, IsOrderly, Matches}

-- the second still has to do all that the first has to do
pub record Extends (u u' : Undone) : Type 0 where
  pub links : (parent : ℕ) (side : Side) (was child : ℕ) → IsUnset u parent side was child → IsUnset u' parent side was child
  pub outs : (node : ℕ) → IsOut u node → IsOut u' node
  pub passes : (node : ℕ) → IsBypassed u node → IsBypassed u' node
  pub heirs : (removed successor : ℕ) → IsHeir u removed successor → IsHeir u' removed successor

-- no update still has to set a link to the node, or a link of the node: this holds if the node and the link to it were
-- locked
pub record IsSettled (u : Undone) (node : ℕ) : Type 0 where
  pub brings : (parent : ℕ) (side : Side) (was : ℕ) → ¬ IsUnset u parent side was node
  pub links : (side : Side) (was child : ℕ) → ¬ IsUnset u node side was child

-- the search for the key reaches the node, which has the key
abbrev pub IsFoundAt : ℕ → ℕ → NamedTree → Type 0
IsFoundAt key node Null = ⊥
IsFoundAt key node (Branch slot k val left right) =
    ((key ≡ k) × (slot ≡ node)) ⊎ (((key < k) × IsFoundAt key node left) ⊎ ((k < key) × IsFoundAt key node right))

-- the link of `parent` on `side` leads to the node, in a tree that hangs at the link of `root` on `top`
abbrev pub IsLinkTo : ℕ → ℕ → Side → ℕ → Side → NamedTree → Type 0
IsLinkTo node parent side root top Null = ⊥
IsLinkTo node parent side root top (Branch slot key val left right) =
    ((slot ≡ node) × (parent ≡ root) × (side ≡ top)) ⊎ (IsLinkTo node parent side slot Left left ⊎ IsLinkTo node parent side slot Right right)

-- the first node of the tree, and its key
abbrev pub IsFirst : ℕ → ℕ → NamedTree → Type 0
IsFirst node key Null = ⊥
IsFirst node key (Branch slot k val left right) = (IsNull left × (slot ≡ node) × (k ≡ key)) ⊎ IsFirst node key left

-- Before a removal with two children raises, each search for a point up to the successor's reaches it in the plain
-- tree, below the removed node.
abbrev pub AheadLaw : Type 0
AheadLaw =
    (u : Undone) (parent successor key low high x : ℕ) (side : Side) (plain now : NamedTree)
    → IsSettled u successor → Matches u parent side plain now → IsWithin low high now → IsFirst successor key now
    → x ≤ point_of key → LeadsTo (IsBypassed u) x successor plain

-- a put of an absent key, which is in the gap of the link in the plain tree
abbrev pub InsertLaw : Type 0
InsertLaw =
    (u u' : Undone) (node slot key val : ℕ) (side : Side) (plain now : NamedTree)
    → IsOrderly u → Extends u u' → ¬ IsOut u node → ((was child : ℕ) → ¬ IsUnset u node side was child) → IsUnset u' node side 0 slot
    → Matches u 0 Right plain now → EndsAtNull (point_of key) node side 0 Right plain
    → Matches u' 0 Right plain (tree_put slot key val now)

-- a put of a present key
abbrev pub ReplaceLaw : Type 0
ReplaceLaw =
    (u u' : Undone) (node slot key val : ℕ) (plain now : NamedTree)
    → Extends u u' → Matches u 0 Right plain now → IsLawful now → IsFoundAt key node now → IsSettled u node → IsOut u' node
    → ((parent : ℕ) (side : Side) → IsLinkTo node parent side 0 Right now → IsUnset u' parent side node slot)
    → Matches u' 0 Right plain (tree_put slot key val now)

-- The successor in the right tree below a copy in the slot `copy`: it was settled, is taken out too, and is still to be
-- bypassed, at the link to it. That is the copy's own right link if the successor is the top of the tree.
pub record LeavesSuccessor (u u' : Undone) (removed copy successor : ℕ) (right : NamedTree) : Type 0 where
  pub settled : IsSettled u successor
  pub out : IsOut u' successor
  pub bypassed : IsBypassed u' successor
  pub heir : IsHeir u' removed successor
  pub link : (parent : ℕ) (side : Side) → IsLinkTo successor parent side copy Right right → (child : ℕ) × IsUnset u' parent side successor child

-- what a removal of the top of the tree, which hangs at the link of `parent` on `side`, leaves to be done
abbrev pub LeavesUnset : Undone → Undone → ℕ → ℕ → Side → NamedTree → Type 0
LeavesUnset u u' copy parent side Null = Unit {0}
LeavesUnset u u' copy parent side (Branch node key val Null right) =
    IsOut u' node × IsBypassed u' node × ((child : ℕ) × IsUnset u' parent side node child)
LeavesUnset u u' copy parent side (Branch node key val (Branch s k v l r) Null) =
    IsOut u' node × ((child : ℕ) × IsUnset u' parent side node child)
LeavesUnset u u' copy parent side (Branch node key val (Branch s k v l r) (Branch s' k' v' l' r')) =
    IsOut u' node × IsUnset u' parent side node copy
    × ((successor next : ℕ) → IsFirst successor next (Branch s' k' v' l' r') → LeavesSuccessor u u' node copy successor (Branch s' k' v' l' r'))

-- a removal, in each of its cases
abbrev pub RemoveLaw : Type 0
RemoveLaw =
    (u u' : Undone) (node slot key : ℕ) (plain now : NamedTree)
    → Extends u u' → Matches u 0 Right plain now → IsLawful now → IsFoundAt key node now → IsSettled u node
    → ((parent : ℕ) (side : Side) → IsLinkTo node parent side 0 Right now → LeavesUnset u u' slot parent side (subtree_at key now))
    → Matches u' 0 Right plain (tree_remove slot key now)
