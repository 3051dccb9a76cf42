-- Where a search ends, in terms of links: the search for the key of a linked node ends at its link, a search for a key
-- within the bounds of a subtree goes through it, and the first node of a tree.
use Rattle.std.proofs.Common.{◌≡◌, ℕ, ◌+◌, ◌<◌, ◌≤◌, ◌⊎◌, inl, inr, [], ◌∷◌, refl, ap, sym, ◌∙◌, subst, arith}
use Rattle.index_words.specs.declared.side.Side.{Side}
use Rattle.index_words.specs.declared.side.Side.TheVariants.{Left, Right}
use Rattle.core_trees.specs.NamedTree.{NamedTree, Null, Branch, IsWithin}
use Rattle.core_trees.specs.TreeStep.{subtree_at, first_pair}
use Rattle.core_trees.specs.Search.{end_node, end_side, EndsAt}
use Rattle.core_trees.specs.Gaps.{IsBetween, IsClear}
use Rattle.core_trees.specs.Slots.{occurs, first_slots}
use Rattle.core_trees.specs.SpelledTree.{Graph, IsSpelled}
use Rattle.core_trees.specs.SpelledStep.{behind_first}
use Rattle.core_trees.specs.LinkSteps.{IsLinkIn}
use Rattle.core_links.proofs.Compare.{compared, less, more, same}
use Rattle.core_trees.proofs.Bounds.{first-within}
use Rattle.core_trees.proofs.Slots.{one_at-other}
use Rattle.core_trees.proofs.Updates.{subtree_at-left, subtree_at-right, subtree_at-here, end_node-left, end_node-right, end_node-here, end_side-left, end_side-right, end_side-here}

-- the node hangs at the link: its key is within the bounds, the search for it ends there, and finds it
pub record HangsAt (g : Graph) (low high parent : ℕ) (side : Side) (node root : ℕ) (top : Side) (tree : NamedTree) : Type 0 where
  pub left : NamedTree
  pub right : NamedTree
  pub from : low ≤ g.key node
  pub until : g.key node < high
  pub ends : EndsAt (g.key node) parent side root top tree
  pub sub : subtree_at (g.key node) tree ≡ Branch node (g.key node) (g.val node) left right

-- a node is the top, or in one of the two trees below
at-node : (x s k v : ℕ) (l r : NamedTree) → 0 < occurs x (Branch s k v l r) → (x ≡ s) ⊎ ((0 < occurs x l) ⊎ (0 < occurs x r))
at-node x s k v l r is =
    elim (compared x s) as (λ _. (x ≡ s) ⊎ ((0 < occurs x l) ⊎ (0 < occurs x r))) [
      | less b ↦ inr (below (λ e. omega arith))
      | more b ↦ inr (below (λ e. omega arith))
      | same e ↦ inl e
    ]
  where
    below : ¬ (x ≡ s) → (0 < occurs x l) ⊎ (0 < occurs x r)
    below apart =
        elim (compared 0 (occurs x l)) as (λ _. (0 < occurs x l) ⊎ (0 < occurs x r)) [
          | less b ↦ inl b
          | more b ↦ absurd (omega arith)
          | same e ↦ inr (omega (arith, e, is, one_at-other x s apart))
        ]

module _ (g : Graph) (parent : ℕ) (side : Side) (node : ℕ) (some : 0 < node) (child : g.child side parent ≡ node) where
  -- the top of a tree
  top-hangs : (low high root : ℕ) (top : Side) (tree : NamedTree) → IsWithin low high tree → IsSpelled g (g.child top root) tree
      → parent ≡ root → side ≡ top → HangsAt g low high parent side node root top tree
  top-hangs low high root top Null within spelled at on =
      absurd (omega (arith, some, sym child ∙ ap (λ x. g.child side x) at ∙ ap (λ w. g.child w root) on ∙ spelled))
  top-hangs low high root top (Branch s k v l r) within spelled at on =
      let is : node ≡ s = sym child ∙ ap (λ x. g.child side x) at ∙ ap (λ w. g.child w root) on ∙ spelled.0 in
      let key : g.key node ≡ k = ap g.key is ∙ spelled.2 in
      let val : g.val node ≡ v = ap g.val is ∙ spelled.3 in
      record {
        left = l;
        right = r;
        from = omega (arith, within.0, key);
        until = omega (arith, within.1, key);
        ends = (end_node-here (g.key node) s k v l r root key ∙ sym at, end_side-here (g.key node) s k v l r top key ∙ sym on);
        sub = subtree_at-here (g.key node) s k v l r key
            ∙ ap (λ x. Branch x k v l r) (sym is) ∙ ap (λ x. Branch node x v l r) (sym key) ∙ ap (λ x. Branch node (g.key node) x l r) (sym val);
      }

  left-hangs : (low high s k v root : ℕ) (top : Side) (l r : NamedTree) → IsWithin low high (Branch s k v l r)
      → HangsAt g low k parent side node s Left l → HangsAt g low high parent side node root top (Branch s k v l r)
  left-hangs low high s k v root top l r within h = record {
    left = h.left;
    right = h.right;
    from = h.from;
    until = omega (arith, h.until, within.1);
    ends = (end_node-left (g.key node) s k v l r root h.until ∙ h.ends.0, end_side-left (g.key node) s k v l r top h.until ∙ h.ends.1);
    sub = subtree_at-left (g.key node) s k v l r h.until ∙ h.sub;
  }

  right-hangs : (low high s k v root : ℕ) (top : Side) (l r : NamedTree) → IsWithin low high (Branch s k v l r)
      → HangsAt g (k + 1) high parent side node s Right r → HangsAt g low high parent side node root top (Branch s k v l r)
  right-hangs low high s k v root top l r within h =
      let above : k < g.key node = omega (arith, h.from) in
      record {
        left = h.left;
        right = h.right;
        from = omega (arith, h.from, within.0);
        until = h.until;
        ends = (end_node-right (g.key node) s k v l r root above ∙ h.ends.0, end_side-right (g.key node) s k v l r top above ∙ h.ends.1);
        sub = subtree_at-right (g.key node) s k v l r above ∙ h.sub;
      }

  pub hangs : (low high root : ℕ) (top : Side) (tree : NamedTree) → IsWithin low high tree → IsSpelled g (g.child top root) tree
      → IsLinkIn root top tree parent side → HangsAt g low high parent side node root top tree
  hangs low high root top Null within spelled (inl at) = top-hangs low high root top Null within spelled at.0 at.1
  hangs low high root top Null within spelled (inr is) = absurd (omega (arith, is))
  hangs low high root top (Branch s k v l r) within spelled (inl at) = top-hangs low high root top (Branch s k v l r) within spelled at.0 at.1
  hangs low high root top (Branch s k v l r) within spelled (inr is) =
      elim (at-node parent s k v l r is) as (λ _. HangsAt g low high parent side node root top (Branch s k v l r)) [
        | inl here ↦ beside side refl here
        | inr below ↦ elim below as (λ _. HangsAt g low high parent side node root top (Branch s k v l r)) [
          | inl left ↦ left-hangs low high s k v root top l r within (hangs low k s Left l within.2 spelled.4 (inr left))
          | inr right ↦ right-hangs low high s k v root top l r within (hangs (k + 1) high s Right r within.3 spelled.5 (inr right))
        ]
      ]
    where
      beside : (w : Side) → side ≡ w → parent ≡ s → HangsAt g low high parent side node root top (Branch s k v l r)
      beside Left on at = left-hangs low high s k v root top l r within (top-hangs low k s Left l within.2 spelled.4 at on)
      beside Right on at = right-hangs low high s k v root top l r within (top-hangs (k + 1) high s Right r within.3 spelled.5 at on)

-- the bounds of the subtree at which the search for a key ends: the search for a key within them goes through it
pub record Through (low high key root : ℕ) (top : Side) (tree : NamedTree) : Type 0 where
  pub low' : ℕ
  pub high' : ℕ
  pub from : low ≤ low'
  pub until : high' ≤ high
  pub within : IsWithin low' high' (subtree_at key tree)
  pub sub : (x : ℕ) → low' ≤ x → x < high' → subtree_at x tree ≡ subtree_at x (subtree_at key tree)
  pub node : (x : ℕ) → low' ≤ x → x < high' → end_node x root tree ≡ end_node x (end_node key root tree) (subtree_at key tree)
  pub side : (x : ℕ) → low' ≤ x → x < high' → end_side x top tree ≡ end_side x (end_side key top tree) (subtree_at key tree)

pub through : (low high key root : ℕ) (top : Side) (tree : NamedTree) → IsWithin low high tree → Through low high key root top tree
through low high key root top Null within = record {
  low' = low;
  high' = high;
  from = omega arith;
  until = omega arith;
  within = tt;
  sub = λ x a b. refl;
  node = λ x a b. refl;
  side = λ x a b. refl;
}
through low high key root top (Branch s k v l r) within =
    elim (compared key k) as (λ _. Through low high key root top (Branch s k v l r)) [
      | less b ↦
          let h : Through low k key s Left l = through low k key s Left l within.2 in
          let sub = subtree_at-left key s k v l r b in
          let node = end_node-left key s k v l r root b in
          let side = end_side-left key s k v l r top b in
          record {
            low' = h.low';
            high' = h.high';
            from = h.from;
            until = omega (arith, h.until, within.1);
            within = subst (IsWithin h.low' h.high') (sym sub) h.within;
            sub = λ x a c. subtree_at-left x s k v l r (omega (arith, c, h.until)) ∙ h.sub x a c ∙ ap (subtree_at x) (sym sub);
            node = λ x a c. end_node-left x s k v l r root (omega (arith, c, h.until)) ∙ h.node x a c
                ∙ ap (λ n. end_node x n (subtree_at key l)) (sym node) ∙ ap (end_node x (end_node key root (Branch s k v l r))) (sym sub);
            side = λ x a c. end_side-left x s k v l r top (omega (arith, c, h.until)) ∙ h.side x a c
                ∙ ap (λ w. end_side x w (subtree_at key l)) (sym side) ∙ ap (end_side x (end_side key top (Branch s k v l r))) (sym sub);
          }
      | more b ↦
          let h : Through (k + 1) high key s Right r = through (k + 1) high key s Right r within.3 in
          let sub = subtree_at-right key s k v l r b in
          let node = end_node-right key s k v l r root b in
          let side = end_side-right key s k v l r top b in
          record {
            low' = h.low';
            high' = h.high';
            from = omega (arith, h.from, within.0);
            until = h.until;
            within = subst (IsWithin h.low' h.high') (sym sub) h.within;
            sub = λ x a c. subtree_at-right x s k v l r (omega (arith, a, h.from)) ∙ h.sub x a c ∙ ap (subtree_at x) (sym sub);
            node = λ x a c. end_node-right x s k v l r root (omega (arith, a, h.from)) ∙ h.node x a c
                ∙ ap (λ n. end_node x n (subtree_at key r)) (sym node) ∙ ap (end_node x (end_node key root (Branch s k v l r))) (sym sub);
            side = λ x a c. end_side-right x s k v l r top (omega (arith, a, h.from)) ∙ h.side x a c
                ∙ ap (λ w. end_side x w (subtree_at key r)) (sym side) ∙ ap (end_side x (end_side key top (Branch s k v l r))) (sym sub);
          }
      | same e ↦
          let sub = subtree_at-here key s k v l r e in
          let node = end_node-here key s k v l r root e in
          let side = end_side-here key s k v l r top e in
          record {
            low' = low;
            high' = high;
            from = omega arith;
            until = omega arith;
            within = subst (IsWithin low high) (sym sub) within;
            sub = λ x a c. ap (subtree_at x) (sym sub);
            node = λ x a c. ap (λ n. end_node x n (Branch s k v l r)) (sym node) ∙ ap (end_node x (end_node key root (Branch s k v l r))) (sym sub);
            side = λ x a c. ap (λ w. end_side x w (Branch s k v l r)) (sym side) ∙ ap (end_side x (end_side key top (Branch s k v l r))) (sym sub);
          }
    ]

-- the first node of a tree is found by its key, and has no left tree; no lower key within the bounds is found
pub record IsFirst (low s k v : ℕ) (l r : NamedTree) : Type 0 where
  pub slot : ℕ
  pub slots : first_slots (Branch s k v l r) ≡ slot ∷ []
  pub found : subtree_at (first_pair k v l).key (Branch s k v l r) ≡ Branch slot (first_pair k v l).key (first_pair k v l).val Null (behind_first (Branch s k v l r))
  pub before : (x : ℕ) → low ≤ x → x < (first_pair k v l).key → subtree_at x (Branch s k v l r) ≡ Null
  pub ends : (x : ℕ) → low ≤ x → x < (first_pair k v l).key → (root : ℕ) (top : Side) → EndsAt x slot Left root top (Branch s k v l r)

pub first_is : (low high s k v : ℕ) (l r : NamedTree) → IsWithin low high (Branch s k v l r) → IsFirst low s k v l r
first_is low high s k v Null r within = record {
  slot = s;
  slots = refl;
  found = subtree_at-here k s k v Null r refl;
  before = λ x a b. subtree_at-left x s k v Null r b;
  ends = λ x a b root top. (end_node-left x s k v Null r root b, end_side-left x s k v Null r top b);
}
first_is low high s k v (Branch t c d l' r') r within =
    let first = first-within low k t c d l' r' within.2 in
    let h : IsFirst low t c d l' r' = first_is low k t c d l' r' within.2 in
    record {
      slot = h.slot;
      slots = h.slots;
      found = subtree_at-left (first_pair c d l').key s k v (Branch t c d l' r') r first.1 ∙ h.found;
      before = λ x a b. subtree_at-left x s k v (Branch t c d l' r') r (omega (arith, b, first.1)) ∙ h.before x a b;
      ends = λ x a b root top.
          let low' : x < k = omega (arith, b, first.1) in
          let below = h.ends x a b s Left in
          (end_node-left x s k v (Branch t c d l' r') r root low' ∙ below.0, end_side-left x s k v (Branch t c d l' r') r top low' ∙ below.1);
    }

-- if all is clear up to a key, no node has a key there
pub clear_node : (side : Side) (key z x s k v : ℕ) (l r tree : NamedTree) → IsClear side key z tree → subtree_at x tree ≡ Branch s k v l r → ¬ IsBetween side key z x
clear_node side key z x s k v l r Null clear sub = absurd (not_null s k v l r sub)
  where
    not_null : (s k v : ℕ) (l r : NamedTree) → Null ≡ Branch s k v l r → ⊥
    not_null s k v l r e = cc
clear_node side key z x s k v l r (Branch t c d l' r') clear sub =
    elim (compared x c) as (λ _. ¬ IsBetween side key z x) [
      | less b ↦ clear_node side key z x s k v l r l' clear.1 (sym (subtree_at-left x t c d l' r' b) ∙ sub)
      | more b ↦ clear_node side key z x s k v l r r' clear.2 (sym (subtree_at-right x t c d l' r' b) ∙ sub)
      | same e ↦ subst (λ y. ¬ IsBetween side key z y) (sym e) clear.0
    ]
