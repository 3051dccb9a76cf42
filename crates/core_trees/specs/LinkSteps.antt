-- The tree step by links: what has to be read at a few links of a spelled tree before and after a change, so that the
-- tree after the step is spelled. Nothing is said of searches: where one ends follows from the links.
use Rattle.std.specs.Prelude.{◌≡◌, ℕ, ◌<◌, ◌⊎◌}
use Rattle.index_words.specs.declared.side.Side.{Side}
use Rattle.index_words.specs.declared.side.Side.TheVariants.{Left, Right}
use Rattle.core_trees.specs.NamedTree.{NamedTree, IsLawful}
use Rattle.core_trees.specs.TreeStep.{tree_put, tree_remove}
use Rattle.core_trees.specs.Gaps.{IsGapLink}
use Rattle.core_trees.specs.Slots.{occurs, NamesOnce}
use Rattle.core_trees.specs.SpelledTree.{Graph, IsSpelled}
use Rattle.core_trees.specs.SpelledStep.{IsNodeOf}

-- the link of a tree that hangs at the link of `root` on `top`: that one, or one of a node of the tree
abbrev pub IsLinkIn : ℕ → Side → NamedTree → ℕ → Side → Type 0
IsLinkIn root top tree node side = ((node ≡ root) × (side ≡ top)) ⊎ (0 < occurs node tree)

-- a lawful tree that names each node once, and is spelled at the link of `root` on `top`
pub record IsTreeAt (g : Graph) (root : ℕ) (top : Side) (tree : NamedTree) : Type 0 where
  pub lawful : IsLawful tree
  pub once : NamesOnce root tree
  pub spelled : IsSpelled g (g.child top root) tree

-- the link is one of the tree, and leads to the node
pub record IsChildLink (g : Graph) (root : ℕ) (top : Side) (tree : NamedTree) (parent : ℕ) (side : Side) (node : ℕ) : Type 0 where
  pub link : IsLinkIn root top tree parent side
  pub child : g.child side parent ≡ node
  pub some : 0 < node

-- keys and values are the same, and so are the children of the root and of the tree's nodes, except at the links that
-- `changed` names
pub record KeepsLinks (g g' : Graph) (changed : ℕ → Side → Type 0) (root : ℕ) (tree : NamedTree) : Type 0 where
  pub keys : (x : ℕ) → g.key x ≡ g'.key x
  pub vals : (x : ℕ) → g.val x ≡ g'.val x
  pub children : (x : ℕ) → (x ≡ root) ⊎ (0 < occurs x tree) → (side : Side) → ¬ changed x side → g.child side x ≡ g'.child side x

abbrev pub IsLink : ℕ → Side → ℕ → Side → Type 0
IsLink node side x w = (x ≡ node) × (w ≡ side)

-- a put of an absent key, which is in the gap of the link: a node without children hangs there
abbrev pub GrowByLinkLaw : Type 0
GrowByLinkLaw =
    (g g' : Graph) (root slot key val node : ℕ) (top side : Side) (tree : NamedTree) → IsTreeAt g root top tree
    → IsGapLink key node side root top tree → KeepsLinks g g' (IsLink node side) root tree
    → IsNodeOf g' slot key val 0 0 → g'.child side node ≡ slot
    → IsSpelled g' (g'.child top root) (tree_put slot key val tree)

-- a put of a present key: a node with the same children hangs at the link to the key's node
abbrev pub ReplaceByLinkLaw : Type 0
ReplaceByLinkLaw =
    (g g' : Graph) (root slot val parent node : ℕ) (top side : Side) (tree : NamedTree) → IsTreeAt g root top tree
    → IsChildLink g root top tree parent side node → KeepsLinks g g' (IsLink parent side) root tree
    → IsNodeOf g' slot (g.key node) val (g.child Left node) (g.child Right node) → g'.child side parent ≡ slot
    → IsSpelled g' (g'.child top root) (tree_put slot (g.key node) val tree)

-- the child that is left of a node with at most one
abbrev pub IsOtherChild : Graph → ℕ → ℕ → Type 0
IsOtherChild g node child =
    ((g.child Left node ≡ 0) × (child ≡ g.child Right node)) ⊎ ((g.child Right node ≡ 0) × (child ≡ g.child Left node))

-- a removal of a node with at most one child: that child hangs at the link to it
abbrev pub LiftByLinkLaw : Type 0
LiftByLinkLaw =
    (g g' : Graph) (root slot parent node child : ℕ) (top side : Side) (tree : NamedTree) → IsTreeAt g root top tree
    → IsChildLink g root top tree parent side node → IsOtherChild g node child → KeepsLinks g g' (IsLink parent side) root tree
    → g'.child side parent ≡ child
    → IsSpelled g' (g'.child top root) (tree_remove slot (g.key node) tree)

-- the node after another one: it has a greater key, and each key between is in the gap of its left link
pub record IsNext (g : Graph) (root : ℕ) (top : Side) (tree : NamedTree) (node parent : ℕ) (side : Side) (next : ℕ) : Type 0 where
  pub at : IsChildLink g root top tree parent side next
  pub above : g.key node < g.key next
  pub gap : (x : ℕ) → g.key node < x → x < g.key next → IsGapLink x next Left root top tree

-- a removal of a node with two children, where the next node is its right child: a node with the next node's pair
-- hangs at the link, with the removed node's left child and the next node's right child
abbrev pub JoinNearLaw : Type 0
JoinNearLaw =
    (g g' : Graph) (root slot parent node next : ℕ) (top side : Side) (tree : NamedTree) → IsTreeAt g root top tree
    → IsChildLink g root top tree parent side node → 0 < g.child Left node → IsNext g root top tree node node Right next
    → KeepsLinks g g' (IsLink parent side) root tree
    → IsNodeOf g' slot (g.key next) (g.val next) (g.child Left node) (g.child Right next) → g'.child side parent ≡ slot
    → IsSpelled g' (g'.child top root) (tree_remove slot (g.key node) tree)

-- and if it is deeper: the new node has the removed node's children, and at the link to the next node hangs that node's
-- right child
abbrev pub JoinDeepLaw : Type 0
JoinDeepLaw =
    (g g' : Graph) (root slot parent node below next : ℕ) (top side turn : Side) (tree : NamedTree) → IsTreeAt g root top tree
    → IsChildLink g root top tree parent side node → 0 < g.child Left node → 0 < g.child Right node
    → IsNext g root top tree node below turn next → ¬ (below ≡ node)
    → KeepsLinks g g' (λ x w. IsLink parent side x w ⊎ IsLink below turn x w) root tree
    → IsNodeOf g' slot (g.key next) (g.val next) (g.child Left node) (g.child Right node) → g'.child side parent ≡ slot
    → g'.child turn below ≡ g.child Right next
    → IsSpelled g' (g'.child top root) (tree_remove slot (g.key node) tree)
