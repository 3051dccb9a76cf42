-- The null links and the gaps of a tree, as far as the list of its nodes tells them.
use Rattle.std.proofs.Common.{◌≡◌, ℕ, ◌<◌, List, [], ◌∷◌, ◌++◌, arith, ap, ◌∙◌, sym, subst, inl, inr}
use Rattle.index_words.specs.declared.side.Side.{Side}
use Rattle.index_words.specs.declared.side.Side.TheVariants.{Left, Right}
use Rattle.index_words.specs.declared.view.reading.TreeNode.{TreeNode}
use Rattle.key_map.specs.Lists.{count, Every}
use Rattle.core_grace.specs.Holds.{tree_slots}
use Rattle.core_trees.specs.NamedTree.{NamedTree, Null, Branch}
use Rattle.core_trees.specs.Gaps.{HasNullLink, IsBetween, IsClear, IsInGap, IsGapLink}
use Rattle.core_trees.specs.Slots.{occurs}
use Rattle.core_trees.specs.SpelledTree.{Graph, IsSpelled}
use Rattle.core_trees.proofs.Slots.{one_at-same}
use Rattle.core_trees.proofs.SpelledGaps.{null_link_law}
use Rattle.core_events.specs.Versions.{tree_nodes}
use Rattle.core_invariant.proofs.TreeNow.{count_slots}

pub every_front : {X : Type 0} (P : X → Type 0) (xs ys : List X) → Every P (xs ++ ys) → Every P xs
every_front P [] ys all = tt
every_front P (x ∷ xs) ys all = (all.0, every_front P xs ys all.1)

pub every_back : {X : Type 0} (P : X → Type 0) (xs ys : List X) → Every P (xs ++ ys) → Every P ys
every_back P [] ys all = all
every_back P (x ∷ xs) ys all = every_back P xs ys all.1

pub every_joined : {X : Type 0} (P : X → Type 0) (xs ys : List X) → Every P xs → Every P ys → Every P (xs ++ ys)
every_joined P [] ys front back = back
every_joined P (x ∷ xs) ys front back = (front.0, every_joined P xs ys front.1 back)

-- what is known of the slot and the key of each node of a tree, is known of the node of a null link
link_node : (P : ℕ → ℕ → Type 0) (node key : ℕ) (side : Side) (tree : NamedTree) → Every (λ (n : TreeNode). P n.slot n.key) (tree_nodes tree)
    → HasNullLink node key side tree → P node key
link_node P node key side Null all link = absurd link
link_node P node key side (Branch s k v l r) all link =
    let Q : TreeNode → Type 0 = λ n. P n.slot n.key in
    let back = every_back Q (tree_nodes l) _ all in
    elim link as (λ _. P node key) [
      | inl here ↦ subst (λ n. P n key) (sym here.0) (subst (P s) (sym here.1) back.0)
      | inr below ↦ elim below as (λ _. P node key) [
        | inl left ↦ link_node P node key side l (every_front Q (tree_nodes l) _ all) left
        | inr right ↦ link_node P node key side r back.1 right
      ]
    ]

-- a node has a slot that is not 0, and the key that is read there
abbrev pub ReadsKey : (ℕ → ℕ) → ℕ → ℕ → Type 0
ReadsKey key_of slot key = (0 < slot) × (key_of slot ≡ key)

pub spelled_nodes : (g : Graph) (c : ℕ) (tree : NamedTree) → IsSpelled g c tree → Every (λ (n : TreeNode). ReadsKey g.key n.slot n.key) (tree_nodes tree)
spelled_nodes g c Null spelled = tt
spelled_nodes g c (Branch s k v l r) spelled =
    every_joined (λ (n : TreeNode). ReadsKey g.key n.slot n.key) (tree_nodes l) _ (spelled_nodes g (g.child Left s) l spelled.4)
    ((spelled.1, spelled.2), spelled_nodes g (g.child Right s) r spelled.5)

-- the same holds of the node of a null link of each tree that has the nodes of a spelled one
pub link_reads : (g : Graph) (c : ℕ) (tree other : NamedTree) (node key : ℕ) (side : Side) → IsSpelled g c tree → tree_nodes tree ≡ tree_nodes other
    → HasNullLink node key side other → ReadsKey g.key node key
link_reads g c tree other node key side spelled same link =
    link_node (ReadsKey g.key) node key side other (subst (Every (λ (n : TreeNode). ReadsKey g.key n.slot n.key)) same (spelled_nodes g c tree spelled)) link

clear_nodes : (side : Side) (key z : ℕ) (tree : NamedTree) → IsClear side key z tree → Every (λ (n : TreeNode). ¬ IsBetween side key z n.key) (tree_nodes tree)
clear_nodes side key z Null clear = tt
clear_nodes side key z (Branch s k v l r) clear =
    every_joined (λ (n : TreeNode). ¬ IsBetween side key z n.key) (tree_nodes l) _ (clear_nodes side key z l clear.1) (clear.0, clear_nodes side key z r clear.2)

nodes_clear : (side : Side) (key z : ℕ) (tree : NamedTree) → Every (λ (n : TreeNode). ¬ IsBetween side key z n.key) (tree_nodes tree) → IsClear side key z tree
nodes_clear side key z Null all = tt
nodes_clear side key z (Branch s k v l r) all =
    let P : TreeNode → Type 0 = λ n. ¬ IsBetween side key z n.key in
    let back = every_back P (tree_nodes l) _ all in
    (back.0, nodes_clear side key z l (every_front P (tree_nodes l) _ all), nodes_clear side key z r back.1)

-- two trees with the same nodes have the same gaps
pub gap_same : (side : Side) (key z : ℕ) (tree other : NamedTree) → tree_nodes tree ≡ tree_nodes other → IsInGap side key z other → IsInGap side key z tree
gap_same side key z tree other same gap =
    (gap.0, nodes_clear side key z tree (subst (Every (λ (n : TreeNode). ¬ IsBetween side key z n.key)) (sym same) (clear_nodes side key z other gap.1)))

-- the node of a null link is in the tree
link_occurs : (node key : ℕ) (side : Side) (tree : NamedTree) → HasNullLink node key side tree → 0 < occurs node tree
link_occurs node key side Null link = absurd link
link_occurs node key side (Branch s k v l r) link =
    elim link as (λ _. 0 < occurs node (Branch s k v l r)) [
      | inl here ↦ subst (λ n. 0 < occurs n (Branch s k v l r)) (sym here.0) (omega (arith, one_at-same s))
      | inr below ↦ elim below as (λ _. 0 < occurs node (Branch s k v l r)) [
        | inl left ↦ omega (arith, link_occurs node key side l left)
        | inr right ↦ omega (arith, link_occurs node key side r right)
      ]
    ]

-- so is the node of a null link of another tree with the same nodes
pub occurs_there : (node key : ℕ) (side : Side) (tree other : NamedTree) → tree_nodes tree ≡ tree_nodes other → HasNullLink node key side other → 0 < occurs node tree
occurs_there node key side tree other same link =
    omega (arith, count_slots node tree, count_slots node other, ap (λ ns. count node (tree_slots ns)) same, link_occurs node key side other link)

-- where no child is read at the root's link, the tree is empty, and every key is in the gap
pub root_gap : (g : Graph) (z node : ℕ) (side : Side) (tree : NamedTree) → IsSpelled g (g.child Right 0) tree → g.child side node ≡ 0
    → (node ≡ 0) × (side ≡ Right) → IsGapLink z node side 0 Right tree
root_gap g z node side Null spelled none is = is
root_gap g z node side (Branch s k v l r) spelled none is =
    let same : g.child Right 0 ≡ 0 = ap (g.child Right) (sym is.0) ∙ ap (λ w. g.child w node) (sym is.1) ∙ none in
    absurd (omega (arith, same, spelled.0, spelled.1))

-- where no child is read at a link of a node of the tree, the link has the gap next to the node's key
pub node_gap : (g : Graph) (c z node : ℕ) (side : Side) (tree : NamedTree) → IsSpelled g c tree → 0 < occurs node tree → g.child side node ≡ 0
    → IsInGap side (g.key node) z tree → IsGapLink z node side 0 Right tree
node_gap g c z node side Null spelled here none gap = absurd (omega (arith, here))
node_gap g c z node side (Branch s k v l r) spelled here none gap = (g.key node, null_link_law g c node side (Branch s k v l r) spelled here none, gap)
