-- The removal of a node with two children, by links, where the next node is deeper.
use Rattle.std.proofs.Common.{◌≡◌, ℕ, ◌+◌, ◌^◌, ◌<◌, ◌≤◌, ◌⊎◌, inl, inr, ap, sym, ◌∙◌, subst, arith}
use Rattle.index_words.specs.declared.side.Side.{Side}
use Rattle.index_words.specs.declared.side.Side.TheVariants.{Left, Right}
use Rattle.core_trees.specs.NamedTree.{NamedTree, Branch}
use Rattle.core_trees.specs.TreeStep.{subtree_at, tree_remove, first_pair, without_first}
use Rattle.core_trees.specs.Search.{end_node, end_side, EndsAt}
use Rattle.core_trees.specs.Slots.{occurs, one_at, NamesOnce}
use Rattle.core_trees.specs.SpelledTree.{Graph, IsSpelled, IsOutside, KeepsOutside}
use Rattle.core_trees.specs.SpelledStep.{end_child, IsNodeOf, SameIn, behind_first}
use Rattle.core_trees.specs.LinkSteps.{IsTreeAt, IsChildLink, KeepsLinks, IsLink, IsNext, JoinDeepLaw}
use Rattle.core_trees.proofs.Slots.{subtree_tally, one_at-same}
use Rattle.core_trees.proofs.SpelledTree.{spelled-frame, end-cases}
use Rattle.core_trees.proofs.SpelledStep.{subtree_law, join_law, unlink_law}
use Rattle.core_trees.proofs.Links.Ends.{HangsAt}
use Rattle.core_trees.proofs.Links.Parts.{end_outside, keeps_outside, same_in, Which, is_null, is_branch, which, at_link, below_in, below_apart, spelled_below, end_is, in_left, in_right, outside, node_as}
use Rattle.core_trees.proofs.Links.Next.{NextIs, within_right, bounds, next_is, next_ends}

abbrev pub IsEither : ℕ → Side → ℕ → Side → ℕ → Side → Type 0
IsEither parent side below turn x w = IsLink parent side x w ⊎ IsLink below turn x w

module _ (g g' : Graph) (root slot parent node below next : ℕ) (top side turn : Side) (tree : NamedTree) (at : IsTreeAt g root top tree)
    (leads : IsChildLink g root top tree parent side node) (left : 0 < g.child Left node) (right : 0 < g.child Right node)
    (goes : IsNext g root top tree node below turn next) (apart : ¬ (below ≡ node)) (keeps : KeepsLinks g g' (IsEither parent side below turn) root tree)
    (new : IsNodeOf g' slot (g.key next) (g.val next) (g.child Left node) (g.child Right node)) (link : g'.child side parent ≡ slot)
    (unlinks : g'.child turn below ≡ g.child Right next) where
  abbrev d : HangsAt g 0 (2 ^ 64) parent side node root top tree
  d = at_link g root parent node top side tree at leads

  abbrev spelled_node : IsSpelled g (end_child g (g.key node) root top tree) (Branch node (g.key node) (g.val node) d.left d.right)
  spelled_node = spelled_below g root parent node top side tree at leads

  whole_once : (x : ℕ) → one_at x node + (occurs x d.left + occurs x d.right) ≤ 1
  whole_once x =
      let part : occurs x (subtree_at (g.key node) tree) ≤ occurs x tree = subtree_tally (one_at x) (g.key node) tree in
      let same_part : occurs x (subtree_at (g.key node) tree) ≡ one_at x node + (occurs x d.left + occurs x d.right) = ap (occurs x) d.sub in
      omega (arith, at.once x, part, same_part)

  module _ (s k v : ℕ) (l r : NamedTree) (is : d.right ≡ Branch s k v l r) where
    abbrev rest : NamedTree
    rest = Branch s k v l r

    first_is_next : NextIs g next s k v l r
    first_is_next = next_is g root parent node below next top side turn tree at leads goes s k v l r is

    ends_there : EndsAt (g.key next) below turn node Right rest
    ends_there = subst (EndsAt (g.key next) below turn node Right) is (next_ends g root parent node below next top side turn tree at leads goes s k v l r is)

    rest_once : NamesOnce node rest
    rest_once x = let equal : occurs x d.right ≡ occurs x rest = ap (occurs x) is in omega (arith, whole_once x, equal)

    in_rest : (x : ℕ) → 0 < occurs x rest → 0 < occurs x (subtree_at (g.key node) tree)
    in_rest x there = in_right g root parent node top side tree at leads x (subst (λ t. 0 < occurs x t) (sym is) there)

    node_in : 0 < occurs node (subtree_at (g.key node) tree)
    node_in = let same_part : occurs node (subtree_at (g.key node) tree) ≡ one_at node node + (occurs node d.left + occurs node d.right) = ap (occurs node) d.sub in omega (arith, same_part, one_at-same node)

    below_in_rest : 0 < occurs below rest
    below_in_rest =
        elim (end-cases (g.key next) node Right rest) as (λ _. 0 < occurs below rest) [
          | inl ends ↦ absurd (apart (sym ends_there.0 ∙ ends.0))
          | inr inside ↦ subst (λ x. 0 < occurs x rest) ends_there.0 inside
        ]

    -- below the node the one changed link is the one to the next node
    below_changed : (x : ℕ) → 0 < occurs x (subtree_at (g.key node) tree) → (w : Side) → IsEither parent side below turn x w → IsLink below turn x w
    below_changed x there w (inl c) = absurd (below_apart g root parent node top side tree at leads x there c.0)
    below_changed x there w (inr c) = c

    in_tree : (x : ℕ) → 0 < occurs x (subtree_at (g.key node) tree) → 0 < occurs x tree
    in_tree = below_in g root parent node top side tree at leads

    -- and outside of it the one to the node
    outside_changed : (x : ℕ) → IsOutside (g.key node) root tree x → (w : Side) → IsEither parent side below turn x w
        → IsLink (end_node (g.key node) root tree) (end_side (g.key node) top tree) x w
    outside_changed x out w (inl c) = (c.0 ∙ sym d.ends.0, c.1 ∙ sym d.ends.1)
    outside_changed x out w (inr c) = absurd (elim out as (λ _. ⊥) [
      | inl at_root ↦ omega (arith, at.once root, one_at-same root, in_tree root (subst (λ n. 0 < occurs n (subtree_at (g.key node) tree)) (sym c.0 ∙ at_root) (in_rest below below_in_rest)))
      | inr less' ↦ omega (arith, at.once x, less', subst (λ n. 0 < occurs n (subtree_at (g.key node) tree)) (sym c.0) (in_rest below below_in_rest))
    ])

    left_stays : SameIn g g' d.left
    left_stays =
        same_in g g' (IsEither parent side below turn) root tree d.left keeps
        (λ x there. in_tree x (in_left g root parent node top side tree at leads x there))
        (λ x there w c.
        let equal : x ≡ below = (below_changed x (in_left g root parent node top side tree at leads x there) w c).0 in
        let same_rest : occurs below d.right ≡ occurs below rest = ap (occurs below) is in
        omega (arith, whole_once below, same_rest, below_in_rest, subst (λ n. 0 < occurs n d.left) equal there))

    keeps_rest : KeepsLinks g g' (IsEither parent side below turn) node rest
    keeps_rest = record {
      keys = keeps.keys;
      vals = keeps.vals;
      children = λ x there w c. elim there as (λ _. g.child w x ≡ g'.child w x) [
        | inl at_node ↦ keeps.children x (inr (in_tree x (subst (λ n. 0 < occurs n (subtree_at (g.key node) tree)) (sym at_node) node_in))) w c
        | inr inside ↦ keeps.children x (inr (in_tree x (in_rest x inside))) w c
      ];
    }

    rest_inside : (x : ℕ) → IsOutside (g.key next) node rest x → 0 < occurs x (subtree_at (g.key node) tree)
    rest_inside x (inl at_node) = subst (λ n. 0 < occurs n (subtree_at (g.key node) tree)) (sym at_node) node_in
    rest_inside x (inr less') = in_rest x (omega (arith, less'))

    rest_outside : KeepsOutside g g' (g.key next) node Right rest
    rest_outside =
        keeps_outside g g' (IsEither parent side below turn) (g.key next) node Right rest rest_once keeps_rest
        (λ x out w c. let to = below_changed x (rest_inside x out) w c in (to.0 ∙ sym ends_there.0, to.1 ∙ sym ends_there.1))

    spelled_rest : IsSpelled g (g.child Right node) rest
    spelled_rest = subst (IsSpelled g (g.child Right node)) is spelled_node.5

    next_spelled : IsSpelled g (g.child Right next) (behind_first rest)
    next_spelled = (subst (IsSpelled g (end_child g (g.key next) node Right rest)) first_is_next.found (subtree_law g node (g.key next) Right rest spelled_rest)).5

    -- what hangs below the next node has none of the changed links
    in_found : (x : ℕ) → 0 < occurs x (behind_first rest) → 0 < occurs x (subtree_at (g.key next) rest)
    in_found x there = subst (λ t. 0 < occurs x t) (sym first_is_next.found) (omega (arith, there))

    behind_in : (x : ℕ) → 0 < occurs x (behind_first rest) → 0 < occurs x rest
    behind_in x there = omega (arith, in_found x there, subtree_tally (one_at x) (g.key next) rest)

    behind_stays : SameIn g g' (behind_first rest)
    behind_stays =
        same_in g g' (IsEither parent side below turn) root tree (behind_first rest) keeps (λ x there. in_tree x (in_rest x (behind_in x there)))
        (λ x there w c.
        let equal : x ≡ end_node (g.key next) node rest = (below_changed x (in_rest x (behind_in x there)) w c).0 ∙ sym ends_there.0 in
        omega (arith, end_outside (g.key next) node rest rest_once, subst (λ n. 0 < occurs n (subtree_at (g.key next) rest)) equal (in_found x there)))

    end_unlinked : end_child g' (g.key next) node Right rest ≡ g.child Right next
    end_unlinked = ap (λ n. g'.child (end_side (g.key next) Right rest) n) ends_there.0 ∙ ap (λ w. g'.child w below) ends_there.1 ∙ unlinks

    right_stays : g.child Right node ≡ g'.child Right node
    right_stays = keeps.children node (inr (in_tree node node_in)) Right (λ c. apart (sym (below_changed node node_in Right c).0))

    deep_spelled : IsSpelled g' (g.child Right node) (without_first rest)
    deep_spelled =
        let b = within_right g root parent node below next top side turn tree at leads goes s k v l r is in
        let bounds' = bounds g root parent node below next top side turn tree at leads goes in
        let new_end : IsSpelled g' (end_child g' (g.key next) node Right rest) (behind_first rest)
        = subst (λ c. IsSpelled g' c (behind_first rest)) (sym end_unlinked) (spelled-frame g g' (g.child Right next) (behind_first rest) behind_stays next_spelled) in
        subst (λ c. IsSpelled g' c (without_first rest)) (sym right_stays)
        (unlink_law g g' node (g.key node + 1) bounds'.high' s k v Right l r b rest_once spelled_rest
        (subst (λ x. KeepsOutside g g' x node Right rest) (sym first_is_next.key) rest_outside)
        (subst (λ x. IsSpelled g' (end_child g' x node Right rest) (behind_first rest)) (sym first_is_next.key) new_end))

  deep_joined : Which d.left → Which d.right → IsSpelled g' (g'.child top root) (tree_remove slot (g.key node) tree)
  deep_joined (is_null none) which_right = absurd (omega (arith, left, subst (IsSpelled g (g.child Left node)) none spelled_node.4))
  deep_joined (is_branch ls lk lv ll lr some) (is_null none) = absurd (omega (arith, right, subst (IsSpelled g (g.child Right node)) none spelled_node.5))
  deep_joined (is_branch ls lk lv ll lr some) (is_branch rs rk rv rl rr is) =
      let first = first_is_next rs rk rv rl rr is in
      join_law g g' root slot (g.key node) node (g.key node) (g.val node) ls lk lv rs rk rv (g.child Right node) top ll lr rl rr tree at.once at.spelled
      (keeps_outside g g' (IsEither parent side below turn) (g.key node) root top tree at.once keeps (outside_changed rs rk rv rl rr is))
      (d.sub ∙ ap (λ t. Branch node (g.key node) (g.val node) t d.right) some ∙ ap (λ t. Branch node (g.key node) (g.val node) (Branch ls lk lv ll lr) t) is)
      (subst (SameIn g g') some (left_stays rs rk rv rl rr is))
      (node_as g' slot (g.key next) (g.val next) (first_pair rk rv rl).key (first_pair rk rv rl).val (g.child Left node) (g.child Right node) (sym first.key) (sym first.val) new)
      (deep_spelled rs rk rv rl rr is) (end_is g root parent node top side tree at leads g' slot link)

pub join_deep : JoinDeepLaw
join_deep g g' root slot parent node below next top side turn tree at leads left right goes apart keeps new link unlinks =
    let d = at_link g root parent node top side tree at leads in
    deep_joined g g' root slot parent node below next top side turn tree at leads left right goes apart keeps new link unlinks (which d.left) (which d.right)
