-- A plain link is set: below a node that stays where it is.
use Rattle.std.proofs.Common.{◌≡◌, ℕ, ◌+◌, ◌<◌, ◌≤◌, ◌⊎◌, inl, inr, refl, ap, sym, ◌∙◌, subst, arith}
use Rattle.std.proofs.lemmas.Bool.Decides.{eqb_tells}
use Rattle.index_words.specs.declared.side.Side.{Side}
use Rattle.index_words.specs.declared.side.Side.TheVariants.{Left, Right}
use Rattle.core_trees.specs.NamedTree.{NamedTree, Null, Branch}
use Rattle.core_trees.specs.Gaps.{IsNull}
use Rattle.core_trees.specs.Slots.{occurs, one_at}
use Rattle.core_trees.specs.SpelledTree.{IsSpelled}
use Rattle.core_trees.proofs.Slots.{one_at-same, one_at-other}
use Rattle.plain_trees.specs.Points.{IsOn}
use Rattle.plain_trees.specs.Successors.{LeadsTo}
use Rattle.plain_trees.specs.Matching.{IsOut, IsBypassed, Matches}
use Rattle.plain_trees.specs.Settling.{IsNew}
use Rattle.plain_trees.proofs.SetForms.{Setting, Clear, away, framed, form-left, form-right, counts-left, counts-right, form-leads, Form, Counts, Known, Done}
use Rattle.plain_trees.proofs.Matched.{null-occurs, stays-in}
use Rattle.plain_trees.proofs.SetNodes.{at-link}

module _ (S : Setting) where
  open S use {g, g', h, u, u', W, N, q, w, was, child, sets, may}

  -- both subtrees below a node that stays where it is, in one of which the link is
  pub record Kids (slot m : ℕ) (l r l' r' : NamedTree) : Type 0 where
    pub left_tree : NamedTree
    pub right_tree : NamedTree
    pub left_spelled : IsSpelled g' (g'.child Left slot) left_tree
    pub right_spelled : IsSpelled g' (g'.child Right slot) right_tree
    pub left_matches : Matches u' m Left left_tree l'
    pub right_matches : Matches u' m Right right_tree r'
    pub form : (k v : ℕ) → Form S (Branch slot k v l r) (Branch slot k v left_tree right_tree)
    pub counts : (k v : ℕ) → Counts S (Branch slot k v l r) (Branch slot k v left_tree right_tree)
    pub leads : (x s : ℕ) → IsOut u s → ¬ (s ≡ was) → LeadsTo (IsBypassed u) x s r → LeadsTo (IsBypassed u) x s right_tree

  pub sides : (x y : Side) → x ≡ w → y ≡ w → IsOn x 1 0 → IsOn y 1 0
  sides x y ex ey on = subst (λ z. IsOn z 1 0) (ex ∙ sym ey) on

  pub off-right : (m : ℕ) (l' r' : NamedTree) → one_at q m + (occurs q l' + occurs q r') ≤ 1 → ((m ≡ q) × (Left ≡ w)) ⊎ (0 < occurs q l')
      → (¬ ((m ≡ q) × (Right ≡ w))) × (occurs q r' ≡ 0)
  off-right m l' r' one (inl aim) =
      (λ e. absurd (omega (arith, sides Left Right aim.1 e.1 (omega arith))), omega (arith, one, subst (λ z. one_at q z ≡ 1) (sym aim.0) (one_at-same q)))
  off-right m l' r' one (inr aim) =
      (λ e. absurd (omega (arith, one, aim, subst (λ z. one_at q z ≡ 1) (sym e.0) (one_at-same q))), omega (arith, one, aim))

  pub off-left : (m : ℕ) (l' r' : NamedTree) → one_at q m + (occurs q l' + occurs q r') ≤ 1 → ((m ≡ q) × (Right ≡ w)) ⊎ (0 < occurs q r')
      → (¬ ((m ≡ q) × (Left ≡ w))) × (occurs q l' ≡ 0)
  off-left m l' r' one (inl aim) =
      (λ e. absurd (omega (arith, sides Left Right e.1 aim.1 (omega arith))), omega (arith, one, subst (λ z. one_at q z ≡ 1) (sym aim.0) (one_at-same q)))
  off-left m l' r' one (inr aim) =
      (λ e. absurd (omega (arith, one, aim, subst (λ z. one_at q z ≡ 1) (sym e.0) (one_at-same q))), omega (arith, one, aim))

  -- a node below which nothing hangs at the place of the link was not taken out
  pub there-left : (slot m : ℕ) (l l' : NamedTree) → Known S slot Left m Left l l' → (0 < occurs q N → 0 < occurs q W) → ((m ≡ q) × (Left ≡ w)) ⊎ (0 < occurs q l') → IsNull l → ¬ IsOut u slot
  there-left slot m l l' known inw (inl aim) n out = may.there (subst (IsOut u) (known.here aim.0 aim.1).0 out)
  there-left slot m l l' known inw (inr aim) n out = absurd (omega (arith, aim, null-occurs q l n, known.counts q (inw (known.within q aim)) may.there))

  pub by-side : (m : ℕ) (l' r' : NamedTree) (side : Side) → side ≡ w → m ≡ q → (((m ≡ q) × (Left ≡ w)) ⊎ (0 < occurs q l')) ⊎ (((m ≡ q) × (Right ≡ w)) ⊎ (0 < occurs q r'))
  by-side m l' r' Left e is = inl (inl (is, e))
  by-side m l' r' Right e is = inr (inl (is, e))

  pub aims : (m k v : ℕ) (l' r' : NamedTree) → 0 < occurs q (Branch m k v l' r') → (((m ≡ q) × (Left ≡ w)) ⊎ (0 < occurs q l')) ⊎ (((m ≡ q) × (Right ≡ w)) ⊎ (0 < occurs q r'))
  aims m k v l' r' i =
      elim (eqb_tells m q) as (λ _. (((m ≡ q) × (Left ≡ w)) ⊎ (0 < occurs q l')) ⊎ (((m ≡ q) × (Right ≡ w)) ⊎ (0 < occurs q r'))) [
        | inl e ↦ by-side m l' r' w refl e.1
        | inr ne ↦ elim (eqb_tells (occurs q l') 0) as (λ _. (((m ≡ q) × (Left ≡ w)) ⊎ (0 < occurs q l')) ⊎ (((m ≡ q) × (Right ≡ w)) ⊎ (0 < occurs q r'))) [
          | inl z ↦ inr (inr (omega (arith, i, z.1, one_at-other q m (λ e. ne.1 (sym e)))))
          | inr z ↦ inl (inr (omega (arith, z.1)))
        ]
      ]

  -- the child is where the link is
  pub child-at : (p : ℕ) (e : Side) (now : NamedTree) → IsSpelled h (h.child e p) now → (0 < occurs q now → 0 < occurs child now)
      → ((p ≡ q) × (e ≡ w)) ⊎ (0 < occurs q now) → 0 < child → 0 < occurs child now
  child-at p e now spelled below (inr i) some = below i
  child-at p e Null spelled below (inl z) some =
      absurd (omega (arith, some, subst (λ y. h.child y p ≡ 0) z.1 spelled, ap (h.child w) z.0, sets.asked))
  child-at p e (Branch m k v l r) spelled below (inl z) some =
      let is : m ≡ child = sym (subst (λ y. h.child y p ≡ m) z.1 spelled.0) ∙ (ap (h.child w) z.0 ∙ sets.asked) in
      subst (λ y. 0 < occurs y (Branch m k v l r)) is (omega (arith, one_at-same m))

  pub child-below : (x : ℕ) (t : NamedTree) → IsSpelled h x t → 0 < child → 0 < occurs q t → 0 < occurs child t
  child-below x Null spelled some i = absurd (omega (arith, i))
  child-below x (Branch m k v l r) spelled some i =
      elim (aims m k v l r i) as (λ _. 0 < occurs child (Branch m k v l r)) [
        | inl z ↦ omega (arith, child-at m Left l spelled.4 (child-below (h.child Left m) l spelled.4 some) z some)
        | inr z ↦ omega (arith, child-at m Right r spelled.5 (child-below (h.child Right m) r spelled.5 some) z some)
      ]

  pub child-in : (p : ℕ) (e : Side) (now : NamedTree) → IsSpelled h (h.child e p) now → ((p ≡ q) × (e ≡ w)) ⊎ (0 < occurs q now) → 0 < child → 0 < occurs child now
  child-in p e now spelled aim some = child-at p e now spelled (child-below (h.child e p) now spelled some) aim some

  -- and so not above it
  pub not-here : (a p : ℕ) (e d : Side) (plain now : NamedTree) → Known S a e p d plain now → 0 < occurs q now → IsNew child W → ¬ (p ≡ child)
  not-here a p e d plain now known i new z =
      omega (arith, known.now_once child, child-below (h.child d p) now known.asked new.0 i, subst (λ y. one_at child y ≡ 1) (sym z) (one_at-same child))

  pub right-of : (m : ℕ) (l' r' : NamedTree) → ((x : ℕ) → one_at x m + (occurs x l' + occurs x r') ≤ 1) → (0 < child → 0 < occurs child l') → Clear S m r'
  right-of m l' r' one inside new =
      (λ e. absurd (omega (arith, one child, inside new.0, subst (λ z. one_at child z ≡ 1) (sym e) (one_at-same child))), omega (arith, one child, inside new.0))

  pub left-of : (m : ℕ) (l' r' : NamedTree) → ((x : ℕ) → one_at x m + (occurs x l' + occurs x r') ≤ 1) → (0 < child → 0 < occurs child r') → Clear S m l'
  left-of m l' r' one inside new =
      (λ e. absurd (omega (arith, one child, inside new.0, subst (λ z. one_at child z ≡ 1) (sym e) (one_at-same child))), omega (arith, one child, inside new.0))

  pub kids : (slot m : ℕ) (l r l' r' : NamedTree) → Known S slot Left m Left l l' → Known S slot Right m Right r r' → Matches u m Left l l' → Matches u m Right r r'
      → ((x : ℕ) → one_at x m + (occurs x l' + occurs x r') ≤ 1) → (0 < occurs q N → 0 < occurs q W)
      → (((m ≡ q) × (Left ≡ w)) ⊎ (0 < occurs q l') → Done S slot Left m Left l l') → (((m ≡ q) × (Right ≡ w)) ⊎ (0 < occurs q r') → Done S slot Right m Right r r')
      → (((m ≡ q) × (Left ≡ w)) ⊎ (0 < occurs q l')) ⊎ (((m ≡ q) × (Right ≡ w)) ⊎ (0 < occurs q r')) → Kids slot m l r l' r'
  kids slot m l r l' r' kl kr ml mr one inw go-left go-right (inl aim) =
      let off : (¬ ((m ≡ q) × (Right ≡ w))) × (occurs q r' ≡ 0) = off-right m l' r' (one q) aim in
      let done : Done S slot Left m Left l l' = go-left aim in
      record {
        left_tree = done.tree;
        right_tree = r;
        left_spelled = done.spelled;
        right_spelled = subst (λ z. IsSpelled g' z r) (sym (sets.others slot Right (λ e. off.0 (kr.elsewhere e.0 e.1))))
            (framed S (g.child Right slot) r (omega (arith, stays-in u q may.there m Right r r' mr, off.1)) kr.spelled);
        left_matches = done.matches;
        right_matches = away S m Right r r' off.0 off.1 (right-of m l' r' one (child-in m Left l' kl.asked aim)) mr;
        form = λ k v. form-left S slot k v l done.tree r (there-left slot m l l' kl inw aim) done.form;
        counts = λ k v. counts-left S slot k v l done.tree r done.counts;
        leads = λ x s out ne way. way;
      }
  kids slot m l r l' r' kl kr ml mr one inw go-left go-right (inr aim) =
      let off : (¬ ((m ≡ q) × (Left ≡ w))) × (occurs q l' ≡ 0) = off-left m l' r' (one q) aim in
      let done : Done S slot Right m Right r r' = go-right aim in
      record {
        left_tree = l;
        right_tree = done.tree;
        left_spelled = subst (λ z. IsSpelled g' z l) (sym (sets.others slot Left (λ e. off.0 (kl.elsewhere e.0 e.1))))
            (framed S (g.child Left slot) l (omega (arith, stays-in u q may.there m Left l l' ml, off.1)) kl.spelled);
        right_spelled = done.spelled;
        left_matches = away S m Left l l' off.0 off.1 (left-of m l' r' one (child-in m Right r' kr.asked aim)) ml;
        right_matches = done.matches;
        form = λ k v. form-right S slot k v l r done.tree done.form;
        counts = λ k v. counts-right S slot k v l r done.tree done.counts;
        leads = λ x s out ne way. form-leads S r done.tree x s out ne done.form way;
      }

  -- what is known below a node that is the same in both trees
  pub same-left : (a p c k v m k' v' : ℕ) (e d : Side) (l r l' r' : NamedTree) → Known S a e p d (Branch c k v l r) (Branch m k' v' l' r') → m ≡ c → Matches u c Right r r' → Known S c Left c Left l l'
  same-left a p c k v m k' v' e d l r l' r' known is matches = record {
    spelled = known.spelled.4;
    asked = subst (λ z. IsSpelled h (h.child Left z) l') is known.asked.4;
    here = λ x y. (x, y);
    elsewhere = λ x y. (x, y);
    once = λ x. omega (arith, known.once x);
    now_once = λ x. omega (arith, known.now_once x, ap (one_at x) is);
    counts = λ x i t. omega (arith, known.counts x i t, ap (one_at x) is, stays-in u x t c Right r r' matches);
    within = λ x i. known.within x (omega (arith, i));
    plain_within = λ x i. known.plain_within x (omega (arith, i));
  }

  pub same-right : (a p c k v m k' v' : ℕ) (e d : Side) (l r l' r' : NamedTree) → Known S a e p d (Branch c k v l r) (Branch m k' v' l' r') → m ≡ c → Matches u c Left l l' → Known S c Right c Right r r'
  same-right a p c k v m k' v' e d l r l' r' known is matches = record {
    spelled = known.spelled.5;
    asked = subst (λ z. IsSpelled h (h.child Right z) r') is known.asked.5;
    here = λ x y. (x, y);
    elsewhere = λ x y. (x, y);
    once = λ x. omega (arith, known.once x);
    now_once = λ x. omega (arith, known.now_once x, ap (one_at x) is);
    counts = λ x i t. omega (arith, known.counts x i t, ap (one_at x) is, stays-in u x t c Left l l' matches);
    within = λ x i. known.within x (omega (arith, i));
    plain_within = λ x i. known.plain_within x (omega (arith, i));
  }

  pub out-other : (x c : ℕ) → IsOut u c → ¬ IsOut u x → one_at x c ≡ 0
  out-other x c out there = one_at-other x c (λ e. there (subst (IsOut u) (sym e) out))

  -- and below one that was taken out, and whose place another one takes
  pub new-left : (a p c k v m k' v' : ℕ) (e d : Side) (l r l' r' : NamedTree) → Known S a e p d (Branch c k v l r) (Branch m k' v' l' r') → IsOut u c → ¬ (m ≡ q)
      → Matches u m Right r r' → Known S c Left m Left l l'
  new-left a p c k v m k' v' e d l r l' r' known out ne matches = record {
    spelled = known.spelled.4;
    asked = known.asked.4;
    here = λ x y. absurd (ne x);
    elsewhere = λ x y. absurd (may.there (subst (IsOut u) x out));
    once = λ x. omega (arith, known.once x);
    now_once = λ x. omega (arith, known.now_once x);
    counts = λ x i t. omega (arith, known.counts x i t, out-other x c out t, stays-in u x t m Right r r' matches);
    within = λ x i. known.within x (omega (arith, i));
    plain_within = λ x i. known.plain_within x (omega (arith, i));
  }

  pub new-right : (a p c k v m k' v' : ℕ) (e d : Side) (l r l' r' : NamedTree) → Known S a e p d (Branch c k v l r) (Branch m k' v' l' r') → IsOut u c → ¬ (m ≡ q)
      → Matches u m Left l l' → Known S c Right m Right r r'
  new-right a p c k v m k' v' e d l r l' r' known out ne matches = record {
    spelled = known.spelled.5;
    asked = known.asked.5;
    here = λ x y. absurd (ne x);
    elsewhere = λ x y. absurd (may.there (subst (IsOut u) x out));
    once = λ x. omega (arith, known.once x);
    now_once = λ x. omega (arith, known.now_once x);
    counts = λ x i t. omega (arith, known.counts x i t, out-other x c out t, stays-in u x t m Left l l' matches);
    within = λ x i. known.within x (omega (arith, i));
    plain_within = λ x i. known.plain_within x (omega (arith, i));
  }

  -- the node that takes the place is not the link's
  pub not-new : (a p c k v m k' v' : ℕ) (e d : Side) (l r l' r' : NamedTree) → Known S a e p d (Branch c k v l r) (Branch m k' v' l' r') → IsOut u c → 0 < occurs q W
      → Matches u m Left l l' → Matches u m Right r r' → ¬ (m ≡ q)
  not-new a p c k v m k' v' e d l r l' r' known out inw ml mr is =
      omega (
        arith,
        known.counts q inw may.there,
        out-other q c out may.there,
        subst (λ z. one_at q z ≡ 1) (sym is) (one_at-same q),
        stays-in u q may.there m Left l l' ml,
        stays-in u q may.there m Right r r' mr,
      )

  pub at-here : (a p : ℕ) (e d : Side) (plain now : NamedTree) → a ≡ q → e ≡ w → p ≡ q → d ≡ w → Known S a e p d plain now → Matches u p d plain now → Done S a e p d plain now
  at-here a p e d plain now ea ee ep ed known matches =
      let known' : Known S q w q w plain now
      = subst (λ z. Known S q w q z plain now) ed (subst (λ z. Known S q w z d plain now) ep (subst (λ z. Known S q z p d plain now) ee (subst (λ z. Known S z e p d plain now) ea known))) in
      let on : occurs q now ≡ 0 = omega (arith, known'.now_once q, one_at-same q) in
      let done : Done S q w q w plain now
      = at-link S plain now known' (omega (arith, stays-in u q may.there p d plain now matches, on)) on (subst (λ z. Matches u q z plain now) ed (subst (λ z. Matches u z d plain now) ep matches)) in
      subst (λ z. Done S z e p d plain now) (sym ea) (subst (λ z. Done S q z p d plain now) (sym ee) (subst (λ z. Done S q w z d plain now) (sym ep) (subst (λ z. Done S q w q z plain now) (sym ed) done)))
