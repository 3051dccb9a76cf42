-- A plain link is set: the plain tree after it matches the tree at the stamp without that link among those still to be
-- set.
use Rattle.std.proofs.Common.{◌≡◌, ℕ, ◌+◌, ◌<◌, ◌≤◌, ◌⊎◌, inl, inr, ap, sym, ◌∙◌, subst, arith}
use Rattle.std.proofs.lemmas.Bool.Decides.{eqb_tells}
use Rattle.index_words.specs.declared.side.Side.{Side}
use Rattle.index_words.specs.declared.side.Side.TheVariants.{Left, Right}
use Rattle.core_trees.specs.NamedTree.{NamedTree, Null, Branch}
use Rattle.core_trees.specs.Slots.{occurs, one_at, NamesOnce}
use Rattle.core_trees.specs.SpelledTree.{IsSpelled}
use Rattle.core_trees.proofs.Slots.{one_at-same, one_at-other}
use Rattle.plain_trees.specs.Matching.{IsOut, IsBypassed, IsHeir, Same, Replaced, Copied, LiftedRight, LiftedLeft, Matches}
use Rattle.plain_trees.specs.Stores.{IsStore, Insert, LiftRight, LiftLeft, Replace, Copy, Join}
use Rattle.plain_trees.specs.Settling.{IsCopy, IsNew, IsSet, SetLaw}
use Rattle.plain_trees.proofs.SetForms.{Setting, ahead-kept, rest-kept, framed, form-left, form-right, IsPassed, counts-left, counts-right, Form, Known, Done}
use Rattle.plain_trees.proofs.Matched.{null-occurs, spelled-some, one_at-most}
use Rattle.plain_trees.proofs.SetForms.Form.{grown, right, left, swapped, copied, joined}
use Rattle.plain_trees.proofs.SetBelow.{aims, not-here, kids, same-left, same-right, out-other, new-left, new-right, not-new, at-here, Kids}

module _ (S : Setting) where
  open S use {g, g', u, u', W, N, q, w, was, child, orderly, sets, may}

  settle : (a p : ℕ) (e d : Side) (plain now : NamedTree) → (0 < occurs q N → 0 < occurs q W) → Known S a e p d plain now → Matches u p d plain now
      → ((p ≡ q) × (d ≡ w)) ⊎ (0 < occurs q now) → Done S a e p d plain now
  settle a p e d plain now inw known matches (inl aim) =
      at-here S a p e d plain now (known.here aim.0 aim.1).0 (known.here aim.0 aim.1).1 aim.0 aim.1 known matches
  settle a p e d Null now inw known matches (inr i) = absurd (omega (arith, i, known.counts q (inw (known.within q i)) may.there))
  settle a p e d (Branch c k v l r) Null inw known matches (inr i) = absurd (omega (arith, i))
  settle a p e d (Branch c k v l r) (Branch m k' v' l' r') inw known (Same matches) (inr i) =
      let other : IsNew child W → ¬ (p ≡ child) = not-here S a p e d (Branch c k v l r) (Branch m k' v' l' r') known i in
      let pq : ¬ (p ≡ q) = λ z. omega (arith, known.now_once q, i, subst (λ y. one_at q y ≡ 1) (sym z) (one_at-same q)) in
      let kl : Known S c Left c Left l l' = same-left S a p c k v m k' v' e d l r l' r' known matches.0 matches.3 in
      let kr : Known S c Right c Right r r' = same-right S a p c k v m k' v' e d l r l' r' known matches.0 matches.2 in
      let kid : Kids S c c l r l' r'
      = kids S c c l r l' r' kl kr matches.2 matches.3 (λ x. omega (arith, known.now_once x, ap (one_at x) matches.0)) inw
      (λ t. settle c c Left Left l l' inw kl matches.2 t) (λ t. settle c c Right Right r r' inw kr matches.3 t)
      (aims S c k' v' l' r' (subst (λ z. 0 < occurs q (Branch z k' v' l' r')) matches.0 i)) in
      record {
        tree = Branch c k v kid.left_tree kid.right_tree;
        spelled = (
          sets.others a e (λ z. pq (known.elsewhere z.0 z.1).0) ∙ known.spelled.0,
          known.spelled.1,
          sets.keys c ∙ known.spelled.2,
          sets.vals c ∙ known.spelled.3,
          kid.left_spelled,
          kid.right_spelled,
        );
        matches = Same (matches.0, matches.1, kid.left_matches, kid.right_matches);
        form = kid.form k v;
        counts = kid.counts k v;
      }
  settle a p e d (Branch c k v l r) (Branch m k' v' l' r') inw known (Replaced o matches) (inr i) =
      let other : IsNew child W → ¬ (p ≡ child) = not-here S a p e d (Branch c k v l r) (Branch m k' v' l' r') known i in
      let pq : ¬ (p ≡ q) = λ z. omega (arith, known.now_once q, i, subst (λ y. one_at q y ≡ 1) (sym z) (one_at-same q)) in
      let ne : ¬ (m ≡ q) = not-new S a p c k v m k' v' e d l r l' r' known o (inw (known.within q i)) matches.2 matches.3 in
      let kl : Known S c Left m Left l l' = new-left S a p c k v m k' v' e d l r l' r' known o ne matches.3 in
      let kr : Known S c Right m Right r r' = new-right S a p c k v m k' v' e d l r l' r' known o ne matches.2 in
      let kid : Kids S c m l r l' r'
      = kids S c m l r l' r' kl kr matches.2 matches.3 (λ x. omega (arith, known.now_once x)) inw
      (λ t. settle c m Left Left l l' inw kl matches.2 t) (λ t. settle c m Right Right r r' inw kr matches.3 t) (aims S m k' v' l' r' i) in
      record {
        tree = Branch c k v kid.left_tree kid.right_tree;
        spelled = (
          sets.others a e (λ z. pq (known.elsewhere z.0 z.1).0) ∙ known.spelled.0,
          known.spelled.1,
          sets.keys c ∙ known.spelled.2,
          sets.vals c ∙ known.spelled.3,
          kid.left_spelled,
          kid.right_spelled,
        );
        matches = Replaced (may.outs c o) (matches.0, rest-kept S p d c m (λ z. pq z.0) other matches.1, kid.left_matches, kid.right_matches);
        form = kid.form k v;
        counts = kid.counts k v;
      }
  settle a p e d (Branch c k v l r) (Branch m k' v' l' r') inw known (Copied o matches) (inr i) =
      let other : IsNew child W → ¬ (p ≡ child) = not-here S a p e d (Branch c k v l r) (Branch m k' v' l' r') known i in
      let pq : ¬ (p ≡ q) = λ z. omega (arith, known.now_once q, i, subst (λ y. one_at q y ≡ 1) (sym z) (one_at-same q)) in
      let ne : ¬ (m ≡ q) = not-new S a p c k v m k' v' e d l r l' r' known o (inw (known.within q i)) matches.4 matches.5 in
      let kl : Known S c Left m Left l l' = new-left S a p c k v m k' v' e d l r l' r' known o ne matches.5 in
      let kr : Known S c Right m Right r r' = new-right S a p c k v m k' v' e d l r l' r' known o ne matches.4 in
      let kid : Kids S c m l r l' r'
      = kids S c m l r l' r' kl kr matches.4 matches.5 (λ x. omega (arith, known.now_once x)) inw
      (λ t. settle c m Left Left l l' inw kl matches.4 t) (λ t. settle c m Right Right r r' inw kr matches.5 t) (aims S m k' v' l' r' i) in
      record {
        tree = Branch c k v kid.left_tree kid.right_tree;
        spelled = (
          sets.others a e (λ z. pq (known.elsewhere z.0 z.1).0) ∙ known.spelled.0,
          known.spelled.1,
          sets.keys c ∙ known.spelled.2,
          sets.vals c ∙ known.spelled.3,
          kid.left_spelled,
          kid.right_spelled,
        );
        matches = Copied (may.outs c o) (
          matches.0,
          rest-kept S p d c m (λ z. pq z.0) other matches.1,
          matches.2,
          ahead-kept S c k k' kid.right_tree (
            matches.3.0,
            matches.3.1,
            λ x from until. kid.leads x matches.3.0 (orderly.heirs c matches.3.0 matches.3.1) (may.copied c matches.3.0 p d m matches.3.1 matches.1) (matches.3.2 x from until),
          ),
          kid.left_matches,
          kid.right_matches,
        );
        form = kid.form k v;
        counts = kid.counts k v;
      }
  settle a p e d (Branch c k v l r) now inw known (LiftedRight o matches) (inr i) =
      let other : IsNew child W → ¬ (p ≡ child) = not-here S a p e d (Branch c k v l r) now known i in
      let pq : ¬ (p ≡ q) = λ z. omega (arith, known.now_once q, i, subst (λ y. one_at q y ≡ 1) (sym z) (one_at-same q)) in
      let cq : ¬ (c ≡ q) = λ z. may.there (subst (IsOut u) z o) in
      let below : Known S c Right p d r now
      = record {
        spelled = known.spelled.5;
        asked = known.asked;
        here = λ x y. absurd (pq x);
        elsewhere = λ x y. absurd (cq x);
        once = λ x. omega (arith, known.once x);
        now_once = known.now_once;
        counts = λ x j t. omega (arith, known.counts x j t, out-other S x c o t, null-occurs x l matches.1);
        within = known.within;
        plain_within = λ x i. known.plain_within x (omega (arith, i));
      } in
      let done : Done S c Right p d r now = settle c p Right d r now inw below matches.4 (inr i) in
      record {
        tree = Branch c k v l done.tree;
        spelled = (
          sets.others a e (λ z. pq (known.elsewhere z.0 z.1).0) ∙ known.spelled.0,
          known.spelled.1,
          sets.keys c ∙ known.spelled.2,
          sets.vals c ∙ known.spelled.3,
          subst (λ z. IsSpelled g' z l) (sym (sets.others c Left (λ z. cq z.0))) (framed S (g.child Left c) l (null-occurs q l matches.1) known.spelled.4),
          done.spelled,
        );
        matches = LiftedRight (may.outs c o) (may.passes c matches.0, matches.1, matches.2, (matches.3.0, rest-kept S p d c matches.3.0 (λ z. pq z.0) other matches.3.1), done.matches);
        form = form-right S c k v l r done.tree done.form;
        counts = counts-right S c k v l r done.tree done.counts;
      }
  settle a p e d (Branch c k v l r) now inw known (LiftedLeft o matches) (inr i) =
      let other : IsNew child W → ¬ (p ≡ child) = not-here S a p e d (Branch c k v l r) now known i in
      let pq : ¬ (p ≡ q) = λ z. omega (arith, known.now_once q, i, subst (λ y. one_at q y ≡ 1) (sym z) (one_at-same q)) in
      let cq : ¬ (c ≡ q) = λ z. may.there (subst (IsOut u) z o) in
      let below : Known S c Left p d l now
      = record {
        spelled = known.spelled.4;
        asked = known.asked;
        here = λ x y. absurd (pq x);
        elsewhere = λ x y. absurd (cq x);
        once = λ x. omega (arith, known.once x);
        now_once = known.now_once;
        counts = λ x j t. omega (arith, known.counts x j t, out-other S x c o t, null-occurs x r matches.0);
        within = known.within;
        plain_within = λ x i. known.plain_within x (omega (arith, i));
      } in
      let done : Done S c Left p d l now = settle c p Left d l now inw below matches.3 (inr i) in
      record {
        tree = Branch c k v done.tree r;
        spelled = (
          sets.others a e (λ z. pq (known.elsewhere z.0 z.1).0) ∙ known.spelled.0,
          known.spelled.1,
          sets.keys c ∙ known.spelled.2,
          sets.vals c ∙ known.spelled.3,
          done.spelled,
          subst (λ z. IsSpelled g' z r) (sym (sets.others c Right (λ z. cq z.0))) (framed S (g.child Right c) r (null-occurs q r matches.0) known.spelled.5),
        );
        matches = LiftedLeft (may.outs c o) (matches.0, matches.1, (matches.2.0, rest-kept S p d c matches.2.0 (λ z. pq z.0) other matches.2.1), done.matches);
        form = form-left S c k v l done.tree r (λ n. absurd (omega (arith, i, null-occurs q l n, below.counts q (inw (known.within q i)) may.there))) done.form;
        counts = counts-left S c k v l done.tree r done.counts;
      }

  result : NamesOnce 0 W → (done : Done S 0 Right 0 Right W N) → IsSet g g' u u' W N done.tree was child
  result once done = by-form done.form
    where
      some : (x : ℕ) → 0 < occurs x done.tree → 0 < x
      some x = spelled-some g' x (g'.child Right 0) done.tree done.spelled

      nodes : (x : ℕ) → 0 < occurs x done.tree → (0 < occurs x W) ⊎ (x ≡ child)
      nodes x i = elim (eqb_tells x child) as (λ _. (0 < occurs x W) ⊎ (x ≡ child)) [ inl e ↦ inr e.1 | inr ne ↦ inl (omega (arith, i, done.counts.brings x, one_at-other x child ne.1)) ]

      often : (x : ℕ) → 0 < x → occurs x done.tree ≤ 1
      often x pos = elim (eqb_tells (occurs x W) 0) as (λ _. occurs x done.tree ≤ 1) [
        | inl z ↦ omega (arith, z.1, done.counts.brings x, one_at-most x child)
        | inr z ↦ omega (arith, done.counts.keeps x (omega (arith, z.1)), once x)
      ]

      once' : NamesOnce 0 done.tree
      once' x = elim (eqb_tells (occurs x done.tree) 0) as (λ _. one_at x 0 + occurs x done.tree ≤ 1) [
        | inl z ↦ omega (arith, z.1, one_at-most x 0)
        | inr z ↦ omega (arith, one_at-other x 0 (λ e. absurd (omega (arith, e, some x (omega (arith, z.1))))), often x (some x (omega (arith, z.1))))
      ]

      gone : occurs was done.tree ≡ 0
      gone = elim (eqb_tells (occurs was done.tree) 0) as (λ _. occurs was done.tree ≡ 0) [
        | inl z ↦ z.1
        | inr z ↦ absurd (omega (arith, z.1, done.counts.goes (some was (omega (arith, z.1))), once was))
      ]

      keeps : (x : ℕ) → ¬ IsOut u x → 0 < occurs x W → 0 < occurs x done.tree
      keeps x there i = omega (arith, i, done.counts.stays x there)

      leaves : (x : ℕ) → 0 < occurs x W → occurs x done.tree ≡ 0 → (x ≡ was) ⊎ IsPassed S x
      leaves x i none = elim (eqb_tells x was) as (λ _. (x ≡ was) ⊎ IsPassed S x) [ inl e ↦ inl e.1 | inr ne ↦ inr (done.counts.leaves x ne.1 (omega (arith, i, none))) ]

      set-by : (successor from until : ℕ) (store : IsStore (λ m. ¬ IsOut u m) (IsBypassed u) was successor from until W done.tree)
          → (IsCopy store → IsHeir u was successor × (from ≡ g.key was) × (g'.child Right child ≡ g.child Right was)) → IsSet g g' u u' W N done.tree was child
      set-by successor from until store copy = record {
        spelled = done.spelled;
        matches = done.matches;
        once = once';
        nodes = nodes;
        gone = gone;
        keeps = keeps;
        leaves = leaves;
        successor = successor;
        from = from;
        until = until;
        store = store;
        copied = copy;
      }

      by-form : Form S W done.tree → IsSet g g' u u' W N done.tree was child
      by-form (grown re) = set-by 0 0 0 (Insert re) absurd
      by-form (right re) = set-by 0 0 0 (LiftRight re) absurd
      by-form (left re) = set-by 0 0 0 (LiftLeft re) absurd
      by-form (swapped firm re) = set-by 0 0 0 (Replace firm re) absurd
      by-form (copied s from until heir firm re) = set-by s from until (Copy firm re) (λ _. heir)
      by-form (joined s firm less re) = set-by s 0 0 (Join firm (omega (arith, less, once s)) re) absurd

pub set_law : SetLaw
set_law g g' h u u' plain now q was child w orderly spelled once asked now_once matches link sets may moves =
    let aim : ((0 ≡ q) × (Right ≡ w)) ⊎ (0 < occurs q now) = elim link as (λ _. ((0 ≡ q) × (Right ≡ w)) ⊎ (0 < occurs q now)) [ inl e ↦ inl (sym e.0, sym e.1) | inr i ↦ inr i ] in
    let inw : 0 < occurs q now → 0 < occurs q plain
    = λ i. elim may.link as (λ _. 0 < occurs q plain) [
      | inl e ↦ absurd (omega (arith, now_once q, i, subst (λ z. one_at z 0 ≡ 1) (sym e.0) (one_at-same 0)))
      | inr is ↦ is
    ] in
    let S : Setting = record {
      g = g;
      g' = g';
      h = h;
      u = u;
      u' = u';
      W = plain;
      N = now;
      q = q;
      w = w;
      was = was;
      child = child;
      orderly = orderly;
      sets = sets;
      may = may;
      moves = moves;
    } in
    let known : Known S 0 Right 0 Right plain now
    = record {
      spelled = spelled;
      asked = asked;
      here = λ x y. (x, y);
      elsewhere = λ x y. (x, y);
      once = once;
      now_once = now_once;
      counts = λ x i t. omega (arith, now_once x, i);
      within = λ x i. i;
      plain_within = λ x i. i;
    } in
    let done : Done S 0 Right 0 Right plain now
    = settle S 0 0 Right Right plain now inw known matches aim in
    (done.tree, result S once done)
