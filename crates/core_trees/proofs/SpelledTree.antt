-- The spelled tree: it is the only one, it stays if its nodes stay, and a changed subtree at one link is an update of
-- the whole.
use Rattle.std.proofs.Common.{◌≡◌, ℕ, ◌+◌, ◌<◌, ◌≤◌, ◌⊎◌, inl, inr, refl, ap, sym, ◌∙◌, subst, arith}
use Rattle.index_words.specs.declared.side.Side.{Side}
use Rattle.index_words.specs.declared.side.Side.TheVariants.{Left, Right}
use Rattle.core_trees.specs.NamedTree.{NamedTree, Null, Branch}
use Rattle.core_trees.specs.TreeStep.{update, subtree_at}
use Rattle.core_trees.specs.Search.{end_node, end_side, EndsAt}
use Rattle.core_trees.specs.Slots.{occurs, one_at, NamesOnce}
use Rattle.core_trees.specs.SpelledTree.{Graph, IsSpelled, SameAt, IsOutside, KeepsOutside, OneTreeLaw, FrameLaw, SwapLaw}
use Rattle.core_links.proofs.Compare.{compared, less, more, same}
use Rattle.core_trees.proofs.Updates.{update-left, update-right, update-here, subtree_at-left, subtree_at-right, subtree_at-here, end_node-left, end_node-right, end_node-here, end_side-left, end_side-right, end_side-here}
use Rattle.core_trees.proofs.Slots.{subtree_tally, one_at-same}

pub spelled-same : (g : Graph) (c : ℕ) (x y : NamedTree) → IsSpelled g c x → IsSpelled g c y → x ≡ y
spelled-same g c Null Null hx hy = refl
spelled-same g c Null (Branch s k v l r) hx hy = absurd (omega (arith, hx, hy.0, hy.1))
spelled-same g c (Branch s k v l r) Null hx hy = absurd (omega (arith, hy, hx.0, hx.1))
spelled-same g c (Branch s k v l r) (Branch s' k' v' l' r') hx hy =
    let slots : s ≡ s' = sym hx.0 ∙ hy.0 in
    let keys : k ≡ k' = sym hx.2 ∙ ap g.key slots ∙ hy.2 in
    let vals : v ≡ v' = sym hx.3 ∙ ap g.val slots ∙ hy.3 in
    let lefts : l ≡ l' = spelled-same g (g.child Left s) l l' hx.4 (subst (λ x. IsSpelled g (g.child Left x) l') (sym slots) hy.4) in
    let rights : r ≡ r' = spelled-same g (g.child Right s) r r' hx.5 (subst (λ x. IsSpelled g (g.child Right x) r') (sym slots) hy.5) in
    cc

pub spelled-frame : (g g' : Graph) (c : ℕ) (tree : NamedTree) → ((x : ℕ) → 0 < occurs x tree → SameAt g g' x) → IsSpelled g c tree
    → IsSpelled g' c tree
spelled-frame g g' c Null agree h = h
spelled-frame g g' c (Branch s k v l r) agree h =
    let here : SameAt g g' s = agree s (omega (arith, one_at-same s)) in (
      h.0,
      h.1,
      sym here.key ∙ h.2,
      sym here.val ∙ h.3,
      subst (λ x. IsSpelled g' x l) here.left (spelled-frame g g' (g.child Left s) l (λ x p. agree x (omega arith)) h.4),
      subst (λ x. IsSpelled g' x r) here.right (spelled-frame g g' (g.child Right s) r (λ x p. agree x (omega arith)) h.5),
    )

-- the link at which a search ends is the one at which the tree hangs, or a link of a node of the tree
pub end-cases : (key root : ℕ) (top : Side) (tree : NamedTree) → EndsAt key root top root top tree ⊎ (0 < occurs (end_node key root tree) tree)
end-cases key root top Null = inl (refl, refl)
end-cases key root top (Branch s k v l r) =
    elim (compared key k) [
      | less b ↦ inr (subst (λ n. 0 < occurs n (Branch s k v l r)) (sym (end_node-left key s k v l r root b))
          (elim (end-cases key s Left l) [
            | inl top' ↦ subst (λ n. 0 < occurs n (Branch s k v l r)) (sym top'.0) (omega (arith, one_at-same s))
            | inr below ↦ omega arith
          ]))
      | more b ↦ inr (subst (λ n. 0 < occurs n (Branch s k v l r)) (sym (end_node-right key s k v l r root b))
          (elim (end-cases key s Right r) [
            | inl top' ↦ subst (λ n. 0 < occurs n (Branch s k v l r)) (sym top'.0) (omega (arith, one_at-same s))
            | inr below ↦ omega arith
          ]))
      | same e ↦ inl (end_node-here key s k v l r root e, end_side-here key s k v l r top e)
    ]

pub end-in : (key root : ℕ) (top : Side) (tree : NamedTree) → 1 ≤ one_at (end_node key root tree) root + occurs (end_node key root tree) tree
end-in key root top tree =
    elim (end-cases key root top tree) [
      | inl top' ↦ omega (arith, subst (λ n. one_at n root ≡ 1) (sym top'.0) (one_at-same root))
      | inr below ↦ omega arith
    ]

-- what a change at one link below a node leaves as it is: `near` is the child towards the link, `far` the
-- other child
record Below (g g' : Graph) (root s key : ℕ) (top near_side far_side : Side) (near far : NamedTree) : Type 0 where
  keeps : KeepsOutside g g' key s near_side near
  once : NamesOnce s near
  link : g.child top root ≡ g'.child top root
  key_stays : g.key s ≡ g'.key s
  val_stays : g.val s ≡ g'.val s
  far_link : g.child far_side s ≡ g'.child far_side s
  far_nodes : (x : ℕ) → 0 < occurs x far → SameAt g g' x

module _ (g g' : Graph) (root s key : ℕ) (top near_side far_side : Side) (whole near far : NamedTree)
    (parts : (x : ℕ) → occurs x whole ≡ one_at x s + (occurs x near + occurs x far))
    (once : NamesOnce root whole)
    (node : end_node key root whole ≡ end_node key s near)
    (side : end_side key top whole ≡ end_side key near_side near)
    (sub : subtree_at key whole ≡ subtree_at key near)
    (sides : ¬ (far_side ≡ near_side))
    (kept : KeepsOutside g g' key root top whole) where
  sub-occurs : (z : ℕ) → occurs z (subtree_at key whole) ≤ occurs z near
  sub-occurs z = subst (λ t. occurs z t ≤ occurs z near) (sym sub) (subtree_tally (one_at z) key near)

  outside-near : (z : ℕ) → IsOutside key s near z → IsOutside key root whole z
  outside-near z (inl e) = inr (omega (arith, parts z, sub-occurs z, subst (λ n. one_at z n ≡ 1) e (one_at-same z)))
  outside-near z (inr b) = inr (omega (arith, parts z, subst (λ t. occurs z t < occurs z near) (sym sub) b))

  outside-far : (z : ℕ) → 0 < occurs z far → IsOutside key root whole z
  outside-far z p = inr (omega (arith, parts z, sub-occurs z))

  end-not : (z : ℕ) → z ≡ end_node key root whole → 1 ≤ one_at z s + occurs z near
  end-not z e = subst (λ n. 1 ≤ one_at n s + occurs n near) (sym (e ∙ node)) (end-in key s near_side near)

  below : Below g g' root s key top near_side far_side near far
  below = record {
    keeps = record {
      keys = λ z o. kept.keys z (outside-near z o);
      vals = λ z o. kept.vals z (outside-near z o);
      others = λ z o ne w. kept.others z (outside-near z o) (λ e. ne (e ∙ node)) w;
      other = λ w ne. subst (λ n. g.child w n ≡ g'.child w n) node (kept.other w (λ e. ne (e ∙ side)));
    };
    once = λ x. omega (arith, once x, parts x);
    link = kept.others root (inl refl) (λ e. absurd (omega (arith, once root, parts root, end-not root e, one_at-same root))) top;
    key_stays = kept.keys s (outside-near s (inl refl));
    val_stays = kept.vals s (outside-near s (inl refl));
    far_link = elim (end-cases key s near_side near) [
      | inl here ↦ subst (λ n. g.child far_side n ≡ g'.child far_side n) (node ∙ here.0) (kept.other far_side (λ e. sides (e ∙ side ∙ here.1)))
      | inr deeper ↦ kept.others s (outside-near s (inl refl)) (λ e. absurd (omega (arith, once s, parts s, one_at-same s, subst (λ n. 0 < occurs n near) (sym (e ∙ node)) deeper))) far_side
    ];
    far_nodes = λ x p. record {
      key = kept.keys x (outside-far x p);
      val = kept.vals x (outside-far x p);
      left = kept.others x (outside-far x p) (λ e. absurd (omega (arith, once x, parts x, end-not x e))) Left;
      right = kept.others x (outside-far x p) (λ e. absurd (omega (arith, once x, parts x, end-not x e))) Right;
    };
  }

pub spelled-swap : (g g' : Graph) (root key : ℕ) (top : Side) (f : NamedTree → NamedTree) (tree : NamedTree) → NamesOnce root tree
    → IsSpelled g (g.child top root) tree → KeepsOutside g g' key root top tree
    → IsSpelled g' (g'.child (end_side key top tree) (end_node key root tree)) (f (subtree_at key tree))
    → IsSpelled g' (g'.child top root) (update key f tree)
spelled-swap g g' root key top f Null once spelled kept new = new
spelled-swap g g' root key top f (Branch s k v l r) once spelled kept new =
    elim (compared key k) [
      | less b ↦
          let node : end_node key root (Branch s k v l r) ≡ end_node key s l = end_node-left key s k v l r root b in
          let side : end_side key top (Branch s k v l r) ≡ end_side key Left l = end_side-left key s k v l r top b in
          let sub : subtree_at key (Branch s k v l r) ≡ subtree_at key l = subtree_at-left key s k v l r b in
          let stays : Below g g' root s key top Left Right l r = below g g' root s key top Left Right (Branch s k v l r) l r (λ x. refl) once node side sub (λ e. cc) kept in
          let changed : IsSpelled g' (g'.child (end_side key Left l) (end_node key s l)) (f (subtree_at key l))
          = subst (λ w. IsSpelled g' (g'.child w (end_node key s l)) (f (subtree_at key l))) side
          (subst (λ n. IsSpelled g' (g'.child (end_side key top (Branch s k v l r)) n) (f (subtree_at key l))) node
          (subst (λ t. IsSpelled g' (g'.child (end_side key top (Branch s k v l r)) (end_node key root (Branch s k v l r))) (f t)) sub new)) in
          subst (IsSpelled g' (g'.child top root)) (sym (update-left key f s k v l r b)) (
            sym stays.link ∙ spelled.0,
            spelled.1,
            sym stays.key_stays ∙ spelled.2,
            sym stays.val_stays ∙ spelled.3,
            spelled-swap g g' s key Left f l stays.once spelled.4 stays.keeps changed,
            subst (λ c. IsSpelled g' c r) stays.far_link (spelled-frame g g' (g.child Right s) r stays.far_nodes spelled.5),
          )
      | more b ↦
          let node : end_node key root (Branch s k v l r) ≡ end_node key s r = end_node-right key s k v l r root b in
          let side : end_side key top (Branch s k v l r) ≡ end_side key Right r = end_side-right key s k v l r top b in
          let sub : subtree_at key (Branch s k v l r) ≡ subtree_at key r = subtree_at-right key s k v l r b in
          let stays : Below g g' root s key top Right Left r l = below g g' root s key top Right Left (Branch s k v l r) r l (λ x. omega arith) once node side sub (λ e. cc) kept in
          let changed : IsSpelled g' (g'.child (end_side key Right r) (end_node key s r)) (f (subtree_at key r))
          = subst (λ w. IsSpelled g' (g'.child w (end_node key s r)) (f (subtree_at key r))) side
          (subst (λ n. IsSpelled g' (g'.child (end_side key top (Branch s k v l r)) n) (f (subtree_at key r))) node
          (subst (λ t. IsSpelled g' (g'.child (end_side key top (Branch s k v l r)) (end_node key root (Branch s k v l r))) (f t)) sub new)) in
          subst (IsSpelled g' (g'.child top root)) (sym (update-right key f s k v l r b)) (
            sym stays.link ∙ spelled.0,
            spelled.1,
            sym stays.key_stays ∙ spelled.2,
            sym stays.val_stays ∙ spelled.3,
            subst (λ c. IsSpelled g' c l) stays.far_link (spelled-frame g g' (g.child Left s) l stays.far_nodes spelled.4),
            spelled-swap g g' s key Right f r stays.once spelled.5 stays.keeps changed,
          )
      | same e ↦
          subst (IsSpelled g' (g'.child top root)) (sym (update-here key f s k v l r e))
          (subst (λ w. IsSpelled g' (g'.child w root) (f (Branch s k v l r))) (end_side-here key s k v l r top e)
          (subst (λ n. IsSpelled g' (g'.child (end_side key top (Branch s k v l r)) n) (f (Branch s k v l r))) (end_node-here key s k v l r root e)
          (subst (λ t. IsSpelled g' (g'.child (end_side key top (Branch s k v l r)) (end_node key root (Branch s k v l r))) (f t)) (subtree_at-here key s k v l r e) new)))
    ]

pub one_tree : OneTreeLaw
one_tree g c tree spelled other too = spelled-same g c other tree too spelled

pub frame_law : FrameLaw
frame_law g c tree spelled g' agree = spelled-frame g g' c tree agree spelled

pub swap_law : SwapLaw
swap_law g c tree spelled g' root key top f once same' kept new =
    spelled-swap g g' root key top f tree once (subst (λ n. IsSpelled g n tree) same' spelled) kept new
