-- The removal of a node with two children, by links, where the next node is its right child.
use Rattle.std.proofs.Common.{◌≡◌, ℕ, ◌^◌, ◌<◌, ap, sym, ◌∙◌, subst, arith}
use Rattle.index_words.specs.declared.side.Side.{Side}
use Rattle.index_words.specs.declared.side.Side.TheVariants.{Left, Right}
use Rattle.core_trees.specs.NamedTree.{NamedTree, Null, Branch}
use Rattle.core_trees.specs.TreeStep.{subtree_at, tree_remove, first_pair, without_first}
use Rattle.core_trees.specs.Slots.{occurs}
use Rattle.core_trees.specs.SpelledTree.{Graph, IsSpelled}
use Rattle.core_trees.specs.SpelledStep.{end_child, IsNodeOf, SameIn, behind_first}
use Rattle.core_trees.specs.LinkSteps.{IsTreeAt, IsChildLink, KeepsLinks, IsLink, IsNext, JoinNearLaw}
use Rattle.core_trees.proofs.SpelledTree.{spelled-frame}
use Rattle.core_trees.proofs.SpelledStep.{join_law}
use Rattle.core_trees.proofs.Links.Ends.{HangsAt}
use Rattle.core_trees.proofs.Links.Parts.{Which, is_null, is_branch, which, at_link, spelled_below, end_is, in_left, in_right, outside, part_stays, node_as, alone}
use Rattle.core_trees.proofs.Links.Next.{next_is}

module _ (g g' : Graph) (root slot parent node next : ℕ) (top side : Side) (tree : NamedTree) (at : IsTreeAt g root top tree) (leads : IsChildLink g root top tree parent side node)
    (left : 0 < g.child Left node) (goes : IsNext g root top tree node node Right next) (keeps : KeepsLinks g g' (IsLink parent side) root tree)
    (new : IsNodeOf g' slot (g.key next) (g.val next) (g.child Left node) (g.child Right next)) (link : g'.child side parent ≡ slot) where
  abbrev h : HangsAt g 0 (2 ^ 64) parent side node root top tree
  h = at_link g root parent node top side tree at leads

  abbrev spelled : IsSpelled g (end_child g (g.key node) root top tree) (Branch node (g.key node) (g.val node) h.left h.right)
  spelled = spelled_below g root parent node top side tree at leads

  -- the right tree has the next node at its top, and so no left tree
  near_spelled : (s k v : ℕ) (l r : NamedTree) → h.right ≡ Branch s k v l r → IsSpelled g' (g.child Right next) (without_first (Branch s k v l r))
  near_spelled s k v l r is =
      let whole : IsSpelled g (g.child Right node) (Branch s k v l r) = subst (IsSpelled g (g.child Right node)) is spelled.5 in
      let slots : next ≡ s = sym goes.at.child ∙ whole.0 in
      let keys : g.key next ≡ k = ap g.key slots ∙ whole.2 in
      let vals : g.val next ≡ v = ap g.val slots ∙ whole.3 in
      let found = (next_is g root parent node node next top side Right tree at leads goes s k v l r is).found in
      let none : l ≡ Null
      = alone g s k v l r (behind_first (Branch s k v l r))
      (ap (λ x. subtree_at x (Branch s k v l r)) (sym keys) ∙ found ∙ ap (λ x. Branch x (g.key next) (g.val next) Null (behind_first (Branch s k v l r))) slots
      ∙ ap (λ x. Branch s x (g.val next) Null (behind_first (Branch s k v l r))) keys ∙ ap (λ x. Branch s k x Null (behind_first (Branch s k v l r))) vals) in
      let stays : SameIn g g' r
      = part_stays g root parent node top side tree at leads g' keeps r
      (λ x there. in_right g root parent node top side tree at leads x (subst (λ t. 0 < occurs x t) (sym is) (omega (arith, there)))) in
      subst (λ (t : NamedTree). IsSpelled g' (g.child Right next) (without_first (Branch s k v t r))) (sym none)
      (spelled-frame g g' (g.child Right next) r stays (subst (λ n. IsSpelled g (g.child Right n) r) (sym slots) whole.5))

  near_joined : Which h.left → Which h.right → IsSpelled g' (g'.child top root) (tree_remove slot (g.key node) tree)
  near_joined (is_null none) right = absurd (omega (arith, left, subst (IsSpelled g (g.child Left node)) none spelled.4))
  near_joined (is_branch ls lk lv ll lr some) (is_null none) =
      let zero : g.child Right node ≡ 0 = subst (IsSpelled g (g.child Right node)) none spelled.5 in
      absurd (omega (arith, goes.at.some, goes.at.child, zero))
  near_joined (is_branch ls lk lv ll lr some) (is_branch rs rk rv rl rr is) =
      let first = next_is g root parent node node next top side Right tree at leads goes rs rk rv rl rr is in
      join_law g g' root slot (g.key node) node (g.key node) (g.val node) ls lk lv rs rk rv (g.child Right next) top ll lr rl rr tree at.once at.spelled
      (outside g root parent node top side tree at leads g' keeps)
      (h.sub ∙ ap (λ t. Branch node (g.key node) (g.val node) t h.right) some ∙ ap (λ t. Branch node (g.key node) (g.val node) (Branch ls lk lv ll lr) t) is)
      (part_stays g root parent node top side tree at leads g' keeps (Branch ls lk lv ll lr)
      (λ x there. in_left g root parent node top side tree at leads x (subst (λ t. 0 < occurs x t) (sym some) there)))
      (node_as g' slot (g.key next) (g.val next) (first_pair rk rv rl).key (first_pair rk rv rl).val (g.child Left node) (g.child Right next) (sym first.key) (sym first.val) new)
      (near_spelled rs rk rv rl rr is) (end_is g root parent node top side tree at leads g' slot link)

pub join_near : JoinNearLaw
join_near g g' root slot parent node next top side tree at leads left goes keeps new link =
    let h = at_link g root parent node top side tree at leads in
    near_joined g g' root slot parent node next top side tree at leads left goes keeps new link (which h.left) (which h.right)
