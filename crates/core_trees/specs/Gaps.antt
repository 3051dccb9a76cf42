-- The gaps of a tree. A null link stands between two neighbours of the contents, and its gap is the open interval
-- between their keys. The node of the link is one of the two; no key lies between it and the other. So a key is in the
-- gap if it lies on the link's side of that node's key, and no key of the tree lies between the two.
use Rattle.std.specs.Prelude.{◌≡◌, ℕ, ◌<◌, ◌≤◌, ◌⊎◌}
use Rattle.index_words.specs.declared.side.Side.{Side}
use Rattle.index_words.specs.declared.side.Side.TheVariants.{Left, Right}
use Rattle.core_trees.specs.NamedTree.{NamedTree, Null, Branch, IsLawful}
use Rattle.core_trees.specs.Search.{EndsAt, end_node, end_side}
use Rattle.core_trees.specs.TreeStep.{tree_put}

-- the tree on one side of a node with these two children
abbrev pub child_of : Side → NamedTree → NamedTree → NamedTree
child_of Left left right = left
child_of Right left right = right

abbrev pub IsNull : NamedTree → Type 0
IsNull Null = Unit {0}
IsNull (Branch slot key val left right) = ⊥

-- the node `node` of the tree has the key `key` and no child on the side
abbrev pub HasNullLink : ℕ → ℕ → Side → NamedTree → Type 0
HasNullLink node key side Null = ⊥
HasNullLink node key side (Branch slot k val left right) =
    ((node ≡ slot) × (key ≡ k) × IsNull (child_of side left right))
    ⊎ (HasNullLink node key side left ⊎ HasNullLink node key side right)

-- the key `z` lies on the side of the key
abbrev pub IsBeside : Side → ℕ → ℕ → Type 0
IsBeside Left key z = z < key
IsBeside Right key z = key < z

-- the key `x` lies between the key and `z`, which is on the side of it, or is `z`
abbrev pub IsBetween : Side → ℕ → ℕ → ℕ → Type 0
IsBetween Left key z x = (z ≤ x) × (x < key)
IsBetween Right key z x = (key < x) × (x ≤ z)

-- no key of the tree lies between the key and `z`, or is `z`
abbrev pub IsClear : Side → ℕ → ℕ → NamedTree → Type 0
IsClear side key z Null = Unit {0}
IsClear side key z (Branch slot k val left right) =
    ¬ IsBetween side key z k × IsClear side key z left × IsClear side key z right

-- the key `z` is in the gap on the side of the key
abbrev pub IsInGap : Side → ℕ → ℕ → NamedTree → Type 0
IsInGap side key z tree = IsBeside side key z × IsClear side key z tree

-- no node has the key
abbrev pub Lacks : ℕ → NamedTree → Type 0
Lacks key Null = Unit {0}
Lacks key (Branch slot k val left right) = ¬ (k ≡ key) × Lacks key left × Lacks key right

-- the link of `node` on `side` is null and has the key in its gap, in a tree that hangs at the link of
-- `root` on `top`: in the empty tree that link is null, and every key is in its gap
abbrev pub IsGapLink : ℕ → ℕ → Side → ℕ → Side → NamedTree → Type 0
IsGapLink z node side root top Null = (node ≡ root) × (side ≡ top)
IsGapLink z node side root top (Branch slot k val left right) =
    (key : ℕ) × HasNullLink node key side (Branch slot k val left right) × IsInGap side key z (Branch slot k val left right)

-- every null link that has the key `z` in its gap is the link of `node` on `side`
abbrev pub IsOnlyGapLink : ℕ → ℕ → Side → NamedTree → Type 0
IsOnlyGapLink z node side tree =
    (n key : ℕ) (w : Side) → HasNullLink n key w tree → IsInGap w key z tree → (node ≡ n) × (side ≡ w)

-- every gap that does not have `put` is as wide or wider in the new tree
abbrev pub WidensOtherGaps : ℕ → NamedTree → NamedTree → Type 0
WidensOtherGaps put old new =
    (k z : ℕ) (side : Side) → IsInGap side k z old → ¬ IsInGap side k put old → IsInGap side k z new

-- every gap is as wide or wider in the new tree
abbrev pub WidensGaps : NamedTree → NamedTree → Type 0
WidensGaps old new = (k z : ℕ) (side : Side) → IsInGap side k z old → IsInGap side k z new

-- the search for a key in the gap of a null link ends at that link
abbrev pub GapEndLaw : Type 0
GapEndLaw =
    (node k z root : ℕ) (side top : Side) (tree : NamedTree) → IsLawful tree → HasNullLink node k side tree → IsInGap side k z tree
    → EndsAt z node side root top tree

-- a key that is not in the tree is in the gap of the null link at which its search ends
abbrev pub AbsentGapLaw : Type 0
AbsentGapLaw =
    (z root : ℕ) (top : Side) (tree : NamedTree) → IsLawful tree → Lacks z tree
    → IsGapLink z (end_node z root tree) (end_side z top tree) root top tree

-- a null link at which the search for the put key does not end has as wide a gap, or a wider one, after it
abbrev pub OtherLinkLaw : Type 0
OtherLinkLaw =
    (slot put val node k z root : ℕ) (side top : Side) (tree : NamedTree) → IsLawful tree → HasNullLink node k side tree
    → IsInGap side k z tree → ¬ EndsAt put node side root top tree → IsInGap side k z (tree_put slot put val tree)
