-- The tree that keys, values and child links spell.
use Rattle.std.specs.Prelude.{◌≡◌, ℕ, ◌<◌, ◌⊎◌, nat_lt, Bool, ◌==◌, ◌&&◌}
use Rattle.index_words.specs.declared.side.Side.{Side}
use Rattle.index_words.specs.declared.side.Side.TheVariants.{Left, Right}
use Rattle.core_trees.specs.NamedTree.{NamedTree, Null, Branch}
use Rattle.core_trees.specs.TreeStep.{update, subtree_at}
use Rattle.core_trees.specs.Search.{end_node, end_side}
use Rattle.core_trees.specs.Slots.{occurs, NamesOnce}

-- what is read of the nodes at one number: the key and the value of each, and its child on each side; 0 is none
pub record Graph : Type 0 where
  pub key : ℕ → ℕ
  pub val : ℕ → ℕ
  pub child : Side → ℕ → ℕ

-- the graph spells the tree from the child `c` on
abbrev pub IsSpelled : Graph → ℕ → NamedTree → Type 0
IsSpelled g c Null = c ≡ 0
IsSpelled g c (Branch slot key val left right) =
    (c ≡ slot) × (0 < slot) × (g.key slot ≡ key) × (g.val slot ≡ val)
    × IsSpelled g (g.child Left slot) left × IsSpelled g (g.child Right slot) right

-- the same as a test
abbrev pub spells : Graph → ℕ → NamedTree → Bool
spells g c Null = c == 0
spells g c (Branch slot key val left right) =
    c == slot && nat_lt 0 slot && g.key slot == key && g.val slot == val && spells g (g.child Left slot) left && spells g (g.child Right slot) right

-- two graphs agree at a node
pub record SameAt (g g' : Graph) (node : ℕ) : Type 0 where
  pub key : g.key node ≡ g'.key node
  pub val : g.val node ≡ g'.val node
  pub left : g.child Left node ≡ g'.child Left node
  pub right : g.child Right node ≡ g'.child Right node

-- a node is the root, or in the tree outside of the subtree at which the search for the key ends
abbrev pub IsOutside : ℕ → ℕ → NamedTree → ℕ → Type 0
IsOutside key root tree node = (node ≡ root) ⊎ (occurs node (subtree_at key tree) < occurs node tree)

-- the second graph has the same nodes outside of that subtree, except for the link at which the search ends
pub record KeepsOutside (g g' : Graph) (key root : ℕ) (top : Side) (tree : NamedTree) : Type 0 where
  pub keys : (z : ℕ) → IsOutside key root tree z → g.key z ≡ g'.key z
  pub vals : (z : ℕ) → IsOutside key root tree z → g.val z ≡ g'.val z
  pub others : (z : ℕ) → IsOutside key root tree z → ¬ (z ≡ end_node key root tree) → (w : Side) → g.child w z ≡ g'.child w z
  pub other : (w : Side) → ¬ (w ≡ end_side key top tree) → g.child w (end_node key root tree) ≡ g'.child w (end_node key root tree)

-- no other tree is spelled from the child on
abbrev pub IsOnlySpelled : Graph → ℕ → NamedTree → Type 0
IsOnlySpelled g c tree = (other : NamedTree) → IsSpelled g c other → other ≡ tree

-- the tree is spelled in every graph that agrees at its nodes
abbrev pub StaysSpelled : Graph → ℕ → NamedTree → Type 0
StaysSpelled g c tree = (g' : Graph) → ((x : ℕ) → 0 < occurs x tree → SameAt g g' x) → IsSpelled g' c tree

-- if a changed subtree is spelled at the link at which the search ends, in a tree that hangs at a link to this child,
-- the update of the whole tree is spelled
abbrev pub SwapsSpelled : Graph → ℕ → NamedTree → Type 0
SwapsSpelled g c tree =
    (g' : Graph) (root key : ℕ) (top : Side) (f : NamedTree → NamedTree) → NamesOnce root tree
    → c ≡ g.child top root → KeepsOutside g g' key root top tree
    → IsSpelled g' (g'.child (end_side key top tree) (end_node key root tree)) (f (subtree_at key tree))
    → IsSpelled g' (g'.child top root) (update key f tree)

abbrev pub OneTreeLaw : Type 0
OneTreeLaw = (g : Graph) (c : ℕ) (tree : NamedTree) → IsSpelled g c tree → IsOnlySpelled g c tree

abbrev pub FrameLaw : Type 0
FrameLaw = (g : Graph) (c : ℕ) (tree : NamedTree) → IsSpelled g c tree → StaysSpelled g c tree

abbrev pub SwapLaw : Type 0
SwapLaw = (g : Graph) (c : ℕ) (tree : NamedTree) → IsSpelled g c tree → SwapsSpelled g c tree
