-- The tree step on a spelled tree: what has to be read at the link at which the search ends, so that the tree
-- after the step is spelled. In each law the nodes outside of the subtree at that link stay as they are.
use Rattle.std.specs.Prelude.{◌≡◌, ℕ, ◌<◌}
use Rattle.index_words.specs.declared.side.Side.{Side}
use Rattle.index_words.specs.declared.side.Side.TheVariants.{Left, Right}
use Rattle.core_trees.specs.NamedTree.{NamedTree, Null, Branch, IsWithin}
use Rattle.core_trees.specs.TreeStep.{update, subtree_at, tree_put, tree_remove, first_pair, without_first}
use Rattle.core_trees.specs.Search.{end_node, end_side}
use Rattle.core_trees.specs.Slots.{occurs, NamesOnce}
use Rattle.core_trees.specs.SpelledTree.{Graph, IsSpelled, SameAt, KeepsOutside}

-- the child at the link at which the search for the key ends
abbrev pub end_child : Graph → ℕ → ℕ → Side → NamedTree → ℕ
end_child g key root top tree = g.child (end_side key top tree) (end_node key root tree)

-- the node of the slot has this key, this value, and these children
pub record IsNodeOf (g : Graph) (slot k v l r : ℕ) : Type 0 where
  pub taken : 0 < slot
  pub key : g.key slot ≡ k
  pub val : g.val slot ≡ v
  pub left : g.child Left slot ≡ l
  pub right : g.child Right slot ≡ r

-- the two graphs agree at each node of the tree
abbrev pub SameIn : Graph → Graph → NamedTree → Type 0
SameIn g g' tree = (x : ℕ) → 0 < occurs x tree → SameAt g g' x

-- the right tree of the first node
abbrev pub behind_first : NamedTree → NamedTree
behind_first Null = Null
behind_first (Branch slot key val Null right) = right
behind_first (Branch slot key val (Branch s k v left right') right) = behind_first (Branch s k v left right')

-- the subtree at which a search ends is spelled at the link at which it ends
abbrev pub SubtreeLaw : Type 0
SubtreeLaw =
    (g : Graph) (root key : ℕ) (top : Side) (tree : NamedTree) → IsSpelled g (g.child top root) tree
    → IsSpelled g (end_child g key root top tree) (subtree_at key tree)

-- in the update of a tree the changed subtree is spelled at the link at which the search ended in the old tree
abbrev pub UpdateEndLaw : Type 0
UpdateEndLaw =
    (g : Graph) (root key : ℕ) (top : Side) (f : NamedTree → NamedTree) (tree : NamedTree)
    → IsSpelled g (g.child top root) (update key f tree) → IsSpelled g (end_child g key root top tree) (f (subtree_at key tree))

-- after a put the link at which its search ended in the old tree leads to the new node
abbrev pub PutEndLaw : Type 0
PutEndLaw =
    (g : Graph) (root slot key val : ℕ) (top : Side) (tree : NamedTree)
    → IsSpelled g (g.child top root) (tree_put slot key val tree) → (end_child g key root top tree ≡ slot) × (0 < slot)

-- a put of an absent key: a node without children hangs at the link
abbrev pub GrowLaw : Type 0
GrowLaw =
    (g g' : Graph) (root slot key val : ℕ) (top : Side) (tree : NamedTree) → NamesOnce root tree
    → IsSpelled g (g.child top root) tree → KeepsOutside g g' key root top tree → subtree_at key tree ≡ Null
    → IsNodeOf g' slot key val 0 0 → end_child g' key root top tree ≡ slot
    → IsSpelled g' (g'.child top root) (tree_put slot key val tree)

-- a put of a present key: a node with the same children hangs at the link, and what is below stays
abbrev pub ReplaceLaw : Type 0
ReplaceLaw =
    (g g' : Graph) (root slot key val s k v : ℕ) (top : Side) (left right tree : NamedTree) → NamesOnce root tree
    → IsSpelled g (g.child top root) tree → KeepsOutside g g' key root top tree
    → subtree_at key tree ≡ Branch s k v left right → SameIn g g' left → SameIn g g' right
    → IsNodeOf g' slot key val (g.child Left s) (g.child Right s) → end_child g' key root top tree ≡ slot
    → IsSpelled g' (g'.child top root) (tree_put slot key val tree)

-- a removal of a node without a left child: its right child hangs at the link, and what is below stays
abbrev pub LiftRightLaw : Type 0
LiftRightLaw =
    (g g' : Graph) (root slot key s k v : ℕ) (top : Side) (right tree : NamedTree) → NamesOnce root tree
    → IsSpelled g (g.child top root) tree → KeepsOutside g g' key root top tree
    → subtree_at key tree ≡ Branch s k v Null right → SameIn g g' right → end_child g' key root top tree ≡ g.child Right s
    → IsSpelled g' (g'.child top root) (tree_remove slot key tree)

-- a removal of a node without a right child: its left child hangs at the link, and what is below stays
abbrev pub LiftLeftLaw : Type 0
LiftLeftLaw =
    (g g' : Graph) (root slot key s k v : ℕ) (top : Side) (left tree : NamedTree) → NamesOnce root tree
    → IsSpelled g (g.child top root) tree → KeepsOutside g g' key root top tree
    → subtree_at key tree ≡ Branch s k v left Null → SameIn g g' left → end_child g' key root top tree ≡ g.child Left s
    → IsSpelled g' (g'.child top root) (tree_remove slot key tree)

-- a removal of a node with two children: a node with the successor's pair and the same left child hangs at
-- the link, and at its right link the right tree without its first node is spelled
abbrev pub JoinLaw : Type 0
JoinLaw =
    (g g' : Graph) (root slot key s k v ls lk lv rs rk rv c : ℕ) (top : Side) (ll lr rl rr tree : NamedTree)
    → NamesOnce root tree → IsSpelled g (g.child top root) tree → KeepsOutside g g' key root top tree
    → subtree_at key tree ≡ Branch s k v (Branch ls lk lv ll lr) (Branch rs rk rv rl rr)
    → SameIn g g' (Branch ls lk lv ll lr)
    → IsNodeOf g' slot (first_pair rk rv rl).key (first_pair rk rv rl).val (g.child Left s) c
    → IsSpelled g' c (without_first (Branch rs rk rv rl rr)) → end_child g' key root top tree ≡ slot
    → IsSpelled g' (g'.child top root) (tree_remove slot key tree)

-- a tree loses its first node where that node's right tree hangs at the link to it
abbrev pub UnlinkLaw : Type 0
UnlinkLaw =
    (g g' : Graph) (root low high s k v : ℕ) (top : Side) (left right : NamedTree)
    → IsWithin low high (Branch s k v left right) → NamesOnce root (Branch s k v left right)
    → IsSpelled g (g.child top root) (Branch s k v left right)
    → KeepsOutside g g' (first_pair k v left).key root top (Branch s k v left right)
    → IsSpelled g' (end_child g' (first_pair k v left).key root top (Branch s k v left right)) (behind_first (Branch s k v left right))
    → IsSpelled g' (g'.child top root) (without_first (Branch s k v left right))
