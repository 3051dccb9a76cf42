-- A plain link is set: what changes away from it, the forms of the store, and what is known of the trees below a link.
use Rattle.std.proofs.Common.{◌≡◌, ℕ, ◌<◌, inl, inr, refl, sym, ◌∙◌, subst, arith, ◌+◌, ◌≤◌, ap}
use Rattle.std.proofs.lemmas.Bool.Decides.{eqb_tells}
use Rattle.index_words.specs.declared.side.Side.{Side}
use Rattle.index_words.specs.declared.side.Side.TheVariants.{Left, Right}
use Rattle.core_trees.specs.NamedTree.{NamedTree, Null, Branch}
use Rattle.core_trees.specs.Slots.{occurs, one_at, NamesOnce}
use Rattle.core_trees.specs.SpelledTree.{Graph, IsSpelled}
use Rattle.core_trees.proofs.Slots.{one_at-same, one_at-other}
use Rattle.core_trees.proofs.SpelledTree.{spelled-frame}
use Rattle.core_trees.specs.Gaps.{IsNull}
use Rattle.plain_trees.specs.Matching.{Undone, IsUnset, IsBypassed, IsOrderly, HasWayAhead, Same, Replaced, Copied, LiftedRight, LiftedLeft, Matches, IsOut}
use Rattle.plain_trees.specs.Matching.{IsHeir}
use Rattle.plain_trees.specs.Settling.{IsNew, Sets, MaySet, PassesOver}
use Rattle.plain_trees.proofs.Points.{leads-keep}
use Rattle.plain_trees.specs.Successors.{LeadsTo}
use Rattle.plain_trees.specs.Stores.{Relinks, Grows, Replaces, LiftsRight, LiftsLeft, Copies, Joins}
use Rattle.plain_trees.proofs.Changes.{leads-on, grows-leads, replaces-leads, lifts_right-leads, lifts_left-leads, copies-leads, joins-leads}
use Rattle.plain_trees.specs.Points.{IsOn}
use Rattle.plain_trees.proofs.Matched.{stays-in, tops}

-- the tables before the store and after it, what is still to be done then, the plain tree and the tree at the stamp,
-- and the link with what it held and what it holds
pub record Setting : Type 0 where
  pub g : Graph
  pub g' : Graph
  pub h : Graph
  pub u : Undone
  pub u' : Undone
  pub W : NamedTree
  pub N : NamedTree
  pub q : ℕ
  pub w : Side
  pub was : ℕ
  pub child : ℕ
  pub orderly : IsOrderly u
  pub sets : Sets g g' h q w was child
  pub may : MaySet g h u u' W N q w was child
  pub moves : ¬ (was ≡ child)

module _ (S : Setting) where
  open S use {g, g', u, u', W, q, w, child, sets, may}

  pub ahead-kept : (removed from until : ℕ) (t : NamedTree) → HasWayAhead u removed from until t → HasWayAhead u' removed from until t
  ahead-kept removed from until t a =
      (a.0, may.heirs removed a.0 a.1, λ x b c. leads-keep (IsBypassed u) (IsBypassed u') x a.0 t (λ z _. may.passes z) (a.2 x b c))

  pub apart : (m k v : ℕ) (d : Side) (l r : NamedTree) → occurs q (Branch m k v l r) ≡ 0 → ¬ ((m ≡ q) × (d ≡ w))
  apart m k v d l r o e = absurd (omega (arith, o, subst (λ z. 0 < occurs z (Branch m k v l r)) e.0 (omega (arith, one_at-same m))))

  -- if the child is new in the plain tree, it is not there
  abbrev pub Clear : ℕ → NamedTree → Type 0
  Clear p now = IsNew child W → (¬ (p ≡ child)) × (occurs child now ≡ 0)

  pub clear-left : (m c k v : ℕ) (l r : NamedTree) → m ≡ c → (IsNew child W → occurs child (Branch m k v l r) ≡ 0) → Clear c l
  clear-left m c k v l r e o new =
      (λ z. absurd (omega (arith, o new, subst (λ y. 0 < occurs y (Branch m k v l r)) (e ∙ z) (omega (arith, one_at-same m)))), omega (arith, o new))

  pub clear-right : (m c k v : ℕ) (l r : NamedTree) → m ≡ c → (IsNew child W → occurs child (Branch m k v l r) ≡ 0) → Clear c r
  clear-right m c k v l r e o new =
      (λ z. absurd (omega (arith, o new, subst (λ y. 0 < occurs y (Branch m k v l r)) (e ∙ z) (omega (arith, one_at-same m)))), omega (arith, o new))

  pub rest-kept : (p : ℕ) (d : Side) (b i : ℕ) → ¬ ((p ≡ q) × (d ≡ w)) → (IsNew child W → ¬ (p ≡ child)) → IsUnset u p d b i → IsUnset u' p d b i
  rest-kept p d b i ne other is = may.rest p d b i ne (λ z. other z.1 z.0) is

  -- away from the link nothing changes
  pub away : (p : ℕ) (d : Side) (plain now : NamedTree) → ¬ ((p ≡ q) × (d ≡ w)) → occurs q now ≡ 0 → Clear p now → Matches u p d plain now → Matches u' p d plain now
  away p d Null Null ne o clear e = inl tt
  away p d Null (Branch m k v l r) ne o clear (inl e) = absurd e
  away p d Null (Branch m k v l r) ne o clear (inr e) = inr (e.0, e.1, rest-kept p d 0 m ne (λ n. (clear n).0) e.2)
  away p d (Branch c k v l r) Null ne o clear (Same e) = absurd e
  away p d (Branch c k v l r) Null ne o clear (Replaced i e) = absurd e
  away p d (Branch c k v l r) Null ne o clear (Copied i e) = absurd e
  away p d (Branch c k v l r) Null ne o clear (LiftedRight i e) =
      LiftedRight (may.outs c i) (may.passes c e.0, e.1, e.2, (e.3.0, rest-kept p d c e.3.0 ne (λ n. (clear n).0) e.3.1), away p d r Null ne o clear e.4)
  away p d (Branch c k v l r) Null ne o clear (LiftedLeft i e) = LiftedLeft (may.outs c i) (e.0, e.1, (e.2.0, rest-kept p d c e.2.0 ne (λ n. (clear n).0) e.2.1), away p d l Null ne o clear e.3)
  away p d (Branch c k v l r) (Branch m k' v' l' r') ne o clear (Same e) =
      Same (
        e.0,
        e.1,
        away c Left l l' (λ z. apart m k' v' Left l' r' o (e.0 ∙ z.0, z.1)) (omega (arith, o)) (clear-left m c k' v' l' r' e.0 (λ n. (clear n).1)) e.2,
        away c Right r r' (λ z. apart m k' v' Right l' r' o (e.0 ∙ z.0, z.1)) (omega (arith, o)) (clear-right m c k' v' l' r' e.0 (λ n. (clear n).1)) e.3,
      )
  away p d (Branch c k v l r) (Branch m k' v' l' r') ne o clear (Replaced i e) =
      Replaced (may.outs c i) (
        e.0,
        rest-kept p d c m ne (λ n. (clear n).0) e.1,
        away m Left l l' (apart m k' v' Left l' r' o) (omega (arith, o)) (clear-left m m k' v' l' r' refl (λ n. (clear n).1)) e.2,
        away m Right r r' (apart m k' v' Right l' r' o) (omega (arith, o)) (clear-right m m k' v' l' r' refl (λ n. (clear n).1)) e.3,
      )
  away p d (Branch c k v l r) (Branch m k' v' l' r') ne o clear (Copied i e) =
      Copied (may.outs c i) (
        e.0,
        rest-kept p d c m ne (λ n. (clear n).0) e.1,
        e.2,
        ahead-kept c k k' r e.3,
        away m Left l l' (apart m k' v' Left l' r' o) (omega (arith, o)) (clear-left m m k' v' l' r' refl (λ n. (clear n).1)) e.4,
        away m Right r r' (apart m k' v' Right l' r' o) (omega (arith, o)) (clear-right m m k' v' l' r' refl (λ n. (clear n).1)) e.5,
      )
  away p d (Branch c k v l r) (Branch m k' v' l' r') ne o clear (LiftedRight i e) =
      LiftedRight (may.outs c i) (may.passes c e.0, e.1, e.2, (e.3.0, rest-kept p d c e.3.0 ne (λ n. (clear n).0) e.3.1), away p d r (Branch m k' v' l' r') ne o clear e.4)
  away p d (Branch c k v l r) (Branch m k' v' l' r') ne o clear (LiftedLeft i e) =
      LiftedLeft (may.outs c i) (e.0, e.1, (e.2.0, rest-kept p d c e.2.0 ne (λ n. (clear n).0) e.2.1), away p d l (Branch m k' v' l' r') ne o clear e.3)

  -- the tops are the same node
  pub same-top : (c m k v : ℕ) (l r l' r' : NamedTree) → occurs q (Branch m k v l' r') ≡ 0 → (IsNew child W → occurs child (Branch m k v l' r') ≡ 0)
      → {key : ℕ} → (m ≡ c) × (k ≡ key) × Matches u c Left l l' × Matches u c Right r r' → (m ≡ c) × (k ≡ key) × Matches u' c Left l l' × Matches u' c Right r r'
  same-top c m k v l r l' r' o clear e = (
    e.0,
    e.1,
    away c Left l l' (λ z. apart m k v Left l' r' o (e.0 ∙ z.0, z.1)) (omega (arith, o)) (clear-left m c k v l' r' e.0 clear) e.2,
    away c Right r r' (λ z. apart m k v Right l' r' o (e.0 ∙ z.0, z.1)) (omega (arith, o)) (clear-right m c k v l' r' e.0 clear) e.3,
  )

  -- if no link of the tops is to be set, they match as they are
  pub quiet : (p : ℕ) (d : Side) (plain now : NamedTree) → ((b i : ℕ) → IsUnset u p d b i → (0 < b) × (occurs b plain ≡ 0)) → occurs q now ≡ 0
      → (IsNew child W → occurs child now ≡ 0) → Matches u p d plain now → Matches u' p d plain now
  quiet p d Null Null calm o clear e = inl tt
  quiet p d Null (Branch m k' v' l' r') calm o clear (inl e) = absurd e
  quiet p d Null (Branch m k' v' l' r') calm o clear (inr e) = absurd (omega (arith, (calm 0 m e.2).0))
  quiet p d (Branch c k v l r) Null calm o clear (Same e) = absurd e
  quiet p d (Branch c k v l r) Null calm o clear (Replaced i e) = absurd e
  quiet p d (Branch c k v l r) Null calm o clear (Copied i e) = absurd e
  quiet p d (Branch c k v l r) (Branch m k' v' l' r') calm o clear (Same e) = Same (same-top c m k' v' l r l' r' o clear e)
  quiet p d (Branch c k v l r) (Branch m k' v' l' r') calm o clear (Replaced i e) = absurd (omega (arith, (calm c m e.1).1, one_at-same c))
  quiet p d (Branch c k v l r) (Branch m k' v' l' r') calm o clear (Copied i e) = absurd (omega (arith, (calm c m e.1).1, one_at-same c))
  quiet p d (Branch c k v l r) now calm o clear (LiftedRight i e) = absurd (omega (arith, (calm c e.3.0 e.3.1).1, one_at-same c))
  quiet p d (Branch c k v l r) now calm o clear (LiftedLeft i e) = absurd (omega (arith, (calm c e.2.0 e.2.1).1, one_at-same c))

  -- a subtree without the link's node is spelled as before
  pub framed : (x : ℕ) (t : NamedTree) → occurs q t ≡ 0 → IsSpelled g x t → IsSpelled g' x t
  framed x t o spelled =
      spelled-frame g g' x t (λ z i. record {
        key = sym (sets.keys z);
        val = sym (sets.vals z);
        left = sym (sets.others z Left (λ e. omega (arith, o, subst (λ y. 0 < occurs y t) e.0 i)));
        right = sym (sets.others z Right (λ e. omega (arith, o, subst (λ y. 0 < occurs y t) e.0 i)));
      }) spelled

-- A plain link is set: the forms of the store, and how often each node stands in the tree before it and after it.
module _ (S : Setting) where
  open S use {g, g', u, W, was, child, orderly, may}

  -- the form of the store
  pub data Form (old new : NamedTree) : Type 0 where
    grown : Relinks (λ m. ¬ IsOut u m) Grows old new → Form old new
    right : Relinks (λ m. ¬ IsOut u m) (LiftsRight was) old new → Form old new
    left : Relinks (λ m. ¬ IsOut u m) (LiftsLeft was) old new → Form old new
    swapped : ¬ IsBypassed u was → Relinks (λ m. ¬ IsOut u m) (Replaces was) old new → Form old new
    copied : (s from until : ℕ) → IsHeir u was s × (from ≡ g.key was) × (g'.child Right child ≡ g.child Right was) → ¬ IsBypassed u was → Relinks (λ m. ¬ IsOut u m) (Copies (IsBypassed u) was s from until) old new → Form old new
    joined : (s : ℕ) → ¬ IsBypassed u was → occurs s new < occurs s old → Relinks (λ m. ¬ IsOut u m) (Joins was s) old new → Form old new

  pub form-left : (s k v : ℕ) (l l' r : NamedTree) → (IsNull l → ¬ IsOut u s) → Form l l' → Form (Branch s k v l r) (Branch s k v l' r)
  form-left s k v l l' r there (grown re) = grown (inr (l', r, refl, inl (re, there, refl)))
  form-left s k v l l' r there (right re) = right (inr (l', r, refl, inl (re, there, refl)))
  form-left s k v l l' r there (left re) = left (inr (l', r, refl, inl (re, there, refl)))
  form-left s k v l l' r there (swapped firm re) = swapped firm (inr (l', r, refl, inl (re, there, refl)))
  form-left s k v l l' r there (copied n from until heir firm re) = copied n from until heir firm (inr (l', r, refl, inl (re, there, refl)))
  form-left s k v l l' r there (joined n firm less re) = joined n firm (omega (arith, less)) (inr (l', r, refl, inl (re, there, refl)))

  pub form-right : (s k v : ℕ) (l r r' : NamedTree) → Form r r' → Form (Branch s k v l r) (Branch s k v l r')
  form-right s k v l r r' (grown re) = grown (inr (l, r', refl, inr (refl, re)))
  form-right s k v l r r' (right re) = right (inr (l, r', refl, inr (refl, re)))
  form-right s k v l r r' (left re) = left (inr (l, r', refl, inr (refl, re)))
  form-right s k v l r r' (swapped firm re) = swapped firm (inr (l, r', refl, inr (refl, re)))
  form-right s k v l r r' (copied n from until heir firm re) = copied n from until heir firm (inr (l, r', refl, inr (refl, re)))
  form-right s k v l r r' (joined n firm less re) = joined n firm (omega (arith, less)) (inr (l, r', refl, inr (refl, re)))

  -- the child is a new copy, whose right link counts as one to be set from the node
  abbrev pub IsPassed : ℕ → Type 0
  IsPassed x = IsNew child W × ((i : ℕ) × IsUnset u child Right x i)

  -- How often each node occurs in the tree before the store and after it: only the child may be added, what goes is
  -- gone, and what was not taken out stays. A node other than the one which the link held goes only if a copy passes
  -- over it.
  pub record Counts (old new : NamedTree) : Type 0 where
    pub brings : (x : ℕ) → occurs x new ≤ occurs x old + one_at x child
    pub keeps : (x : ℕ) → 0 < occurs x W → occurs x new ≤ occurs x old
    pub goes : 0 < was → occurs was new < occurs was old
    pub stays : (x : ℕ) → ¬ IsOut u x → occurs x old ≤ occurs x new
    pub leaves : (x : ℕ) → ¬ (x ≡ was) → occurs x new < occurs x old → IsPassed x

  pub counts-left : (s k v : ℕ) (l l' r : NamedTree) → Counts l l' → Counts (Branch s k v l r) (Branch s k v l' r)
  counts-left s k v l l' r c = record {
    brings = λ x. omega (arith, c.brings x);
    keeps = λ x i. omega (arith, c.keeps x i);
    goes = λ some. omega (arith, c.goes some);
    stays = λ x t. omega (arith, c.stays x t);
    leaves = λ x ne less. c.leaves x ne (omega (arith, less));
  }

  pub counts-right : (s k v : ℕ) (l r r' : NamedTree) → Counts r r' → Counts (Branch s k v l r) (Branch s k v l r')
  counts-right s k v l r r' c = record {
    brings = λ x. omega (arith, c.brings x);
    keeps = λ x i. omega (arith, c.keeps x i);
    goes = λ some. omega (arith, c.goes some);
    stays = λ x t. omega (arith, c.stays x t);
    leaves = λ x ne less. c.leaves x ne (omega (arith, less));
  }

  -- a new node in the place of one that was taken out
  pub counts-swapped : (c k v m k' v' : ℕ) (l r : NamedTree) → c ≡ was → m ≡ child → IsOut u c → 0 < occurs c W → occurs m W ≡ 0 → Counts (Branch c k v l r) (Branch m k' v' l r)
  counts-swapped c k v m k' v' l r slot is out there new =
      let other : (x : ℕ) → 0 < occurs x W → one_at x m ≡ 0 = λ x i. one_at-other x m (λ e. absurd (omega (arith, i, new, ap (λ z. occurs z W) e))) in
      record {
        brings = λ x. omega (arith, ap (one_at x) is);
        keeps = λ x i. omega (arith, other x i);
        goes = λ some. omega (arith, subst (λ z. one_at z c ≡ 1) slot (one_at-same c), other was (subst (λ z. 0 < occurs z W) slot there));
        stays = λ x t. omega (arith, one_at-other x c (λ e. t (subst (IsOut u) (sym e) out)));
        leaves = λ x ne less. absurd (omega (arith, less, one_at-other x c (λ e. ne (e ∙ slot))));
      }

  -- and in the place of one whose successor goes too
  pub counts-joined : (c k v m k' v' n : ℕ) (l r rest : NamedTree) → r ≡ Branch n k' v' Null rest → c ≡ was → m ≡ child → IsOut u c → IsOut u n → IsPassed n → 0 < occurs c W → occurs m W ≡ 0
      → (k'' v'' : ℕ) → Counts (Branch c k v l r) (Branch m k'' v'' l rest)
  counts-joined c k v m k' v' n l r rest splits slot is out gone passed there new k'' v'' =
      let other : (x : ℕ) → 0 < occurs x W → one_at x m ≡ 0 = λ x i. one_at-other x m (λ e. absurd (omega (arith, i, new, ap (λ z. occurs z W) e))) in
      let old : (x : ℕ) → occurs x r ≡ one_at x n + (0 + occurs x rest) = λ x. ap (occurs x) splits in
      record {
        brings = λ x. omega (arith, ap (one_at x) is, old x);
        keeps = λ x i. omega (arith, other x i, old x);
        goes = λ some. omega (arith, old was, subst (λ z. one_at z c ≡ 1) slot (one_at-same c), other was (subst (λ z. 0 < occurs z W) slot there));
        stays = λ x t. omega (arith, old x, one_at-other x c (λ e. t (subst (IsOut u) (sym e) out)), one_at-other x n (λ e. t (subst (IsOut u) (sym e) gone)));
        leaves = λ x ne less. elim (eqb_tells x n) as (λ _. IsPassed x) [
          | inl e ↦ subst IsPassed (sym e.1) passed
          | inr other' ↦ absurd (omega (arith, less, old x, one_at-other x c (λ e. ne (e ∙ slot)), one_at-other x n other'.1))
        ];
      }

  -- one child in the place of the node
  pub counts-lifted : (c k v : ℕ) (l r t : NamedTree) → c ≡ was → IsOut u c → ((x : ℕ) → occurs x l + occurs x r ≡ occurs x t) → Counts (Branch c k v l r) t
  counts-lifted c k v l r t slot out is = record {
    brings = λ x. omega (arith, is x);
    keeps = λ x i. omega (arith, is x);
    goes = λ some. omega (arith, is was, subst (λ z. one_at z c ≡ 1) slot (one_at-same c));
    stays = λ x t. omega (arith, is x, one_at-other x c (λ e. t (subst (IsOut u) (sym e) out)));
    leaves = λ x ne less. absurd (omega (arith, less, is x, one_at-other x c (λ e. ne (e ∙ slot))));
  }

  -- the way to a successor stays, unless the successor is the node that goes out
  pub form-leads : (r r' : NamedTree) (x s : ℕ) → IsOut u s → ¬ (s ≡ was) → Form r r' → LeadsTo (IsBypassed u) x s r → LeadsTo (IsBypassed u) x s r'
  form-leads r r' x s out ne (grown re) =
      leads-on (λ m. ¬ IsOut u m) (IsBypassed u) x s Grows (λ f. f out) (λ m f b. f (orderly.passes m b)) (grows-leads (IsBypassed u) x s) r r' re
  form-leads r r' x s out ne (right re) =
      leads-on (λ m. ¬ IsOut u m) (IsBypassed u) x s (LiftsRight was) (λ f. f out) (λ m f b. f (orderly.passes m b)) (lifts_right-leads (IsBypassed u) x s was ne) r r' re
  form-leads r r' x s out ne (left re) =
      leads-on (λ m. ¬ IsOut u m) (IsBypassed u) x s (LiftsLeft was) (λ f. f out) (λ m f b. f (orderly.passes m b)) (lifts_left-leads (IsBypassed u) x s was ne) r r' re
  form-leads r r' x s out ne (swapped firm re) =
      leads-on (λ m. ¬ IsOut u m) (IsBypassed u) x s (Replaces was) (λ f. f out) (λ m f b. f (orderly.passes m b)) (replaces-leads (IsBypassed u) x s was ne firm) r r' re
  form-leads r r' x s out ne (copied n from until heir firm re) =
      leads-on (λ m. ¬ IsOut u m) (IsBypassed u) x s (Copies (IsBypassed u) was n from until) (λ f. f out) (λ m f b. f (orderly.passes m b))
      (copies-leads (IsBypassed u) (IsBypassed u) x s was n from until ne firm) r r' re
  form-leads r r' x s out ne (joined n firm less re) =
      leads-on (λ m. ¬ IsOut u m) (IsBypassed u) x s (Joins was n) (λ f. f out) (λ m f b. f (orderly.passes m b)) (joins-leads (IsBypassed u) x s was n ne firm) r r' re

-- A plain link is set: what is known of the two trees below a link, and of a node that is new.
module _ (S : Setting) where
  open S use {g, g', h, u, u', W, N, q, w, was, child, sets, may}

  -- What is known of a subtree of the plain tree, which hangs at the plain link of `a` on `e`, and of the subtree of
  -- the tree at the stamp, which hangs there at the link of `p` on `d`.
  pub record Known (a : ℕ) (e : Side) (p : ℕ) (d : Side) (plain now : NamedTree) : Type 0 where
    pub spelled : IsSpelled g (g.child e a) plain
    pub asked : IsSpelled h (h.child d p) now
    pub here : p ≡ q → d ≡ w → (a ≡ q) × (e ≡ w)
    pub elsewhere : a ≡ q → e ≡ w → (p ≡ q) × (d ≡ w)
    pub once : NamesOnce a plain
    pub now_once : NamesOnce p now
    pub counts : (x : ℕ) → 0 < occurs x W → ¬ IsOut u x → occurs x now ≤ occurs x plain
    pub within : (x : ℕ) → 0 < occurs x now → 0 < occurs x N
    pub plain_within : (x : ℕ) → 0 < occurs x plain → 0 < occurs x W

  pub record Done (a : ℕ) (e : Side) (p : ℕ) (d : Side) (plain now : NamedTree) : Type 0 where
    pub tree : NamedTree
    pub spelled : IsSpelled g' (g'.child e a) tree
    pub matches : Matches u' p d tree now
    pub form : Form S plain tree
    pub counts : Counts S plain tree

  -- a node that is in the tree at the stamp here, and not in the plain tree, is not in the plain tree at all
  pub is-new : (m : ℕ) (a p : ℕ) (e d : Side) (plain now : NamedTree) → Known a e p d plain now → ¬ IsOut u m → occurs m plain < occurs m now → occurs m W ≡ 0
  is-new m a p e d plain now known there more =
      elim (eqb_tells (occurs m W) 0) as (λ _. occurs m W ≡ 0) [ inl z ↦ z.1 | inr z ↦ absurd (omega (arith, more, known.counts m (omega (arith, z.1)) there)) ]

  -- the same holds of the top of the tree at the stamp, if the plain tree has a node there that was taken out
  pub new-at : (c k v m k' v' : ℕ) (l r l' r' : NamedTree) → Known q w q w (Branch c k v l r) (Branch m k' v' l' r') → IsOut u c → Matches u m Left l l' → Matches u m Right r r'
      → occurs m W ≡ 0
  new-at c k v m k' v' l r l' r' known out ml mr =
      let there : ¬ IsOut u m = may.stays m (known.within m (omega (arith, one_at-same m))) in
      is-new m q q w w (Branch c k v l r) (Branch m k' v' l' r') known there
      (omega (arith, one_at-same m, one_at-other m c (λ e. there (subst (IsOut u) (sym e) out)), stays-in u m there m Left l l' ml, stays-in u m there m Right r r' mr))

  -- at the link: it leads to the child that the tree at the stamp has there
  pub top-child : (m : ℕ) → h.child w q ≡ m → g'.child w q ≡ m
  top-child m e = sets.after ∙ sym sets.asked ∙ e

  pub new-child : (m : ℕ) → ¬ (m ≡ q) → 0 < occurs m N → occurs m W ≡ 0 → (d : Side) → g'.child d m ≡ h.child d m
  new-child m ne is fresh d = sets.others m d (λ e. ne e.0) ∙ may.new m is fresh d

  -- the children of the node that went out hang at the new node
  pub new-kid : (m : ℕ) → ¬ (m ≡ q) → 0 < occurs m N → occurs m W ≡ 0 → (d : Side) (x : ℕ) (t now : NamedTree)
      → ((b i : ℕ) → IsUnset u m d b i → (0 < b) × (occurs b t ≡ 0)) → occurs q t ≡ 0 → IsSpelled g x t
      → IsSpelled h (h.child d m) now → Matches u m d t now → IsSpelled g' (g'.child d m) t
  new-kid m ne is fresh d x t now calm o spelled asked matches =
      subst (λ z. IsSpelled g' z t) (tops g h u m d x (h.child d m) t now calm spelled asked matches ∙ sym (new-child m ne is fresh d))
      (framed S x t o spelled)

  -- the links of the child that count as to be set, if it is new
  pub near : (m : ℕ) → h.child w q ≡ m → 0 < m → occurs m W ≡ 0 → (d : Side) (b i : ℕ) → IsUnset u m d b i → PassesOver g W was m may.near d b i
  near m e some fresh d b i =
      let is : child ≡ m = sym sets.asked ∙ e in
      subst (λ z. IsUnset u z d b i → PassesOver g W was z may.near d b i) is (may.calm (subst (λ z. IsNew z W) (sym is) (some, fresh)) d b i)

  pub clear-at : (m : ℕ) → h.child w q ≡ m → (t : NamedTree) → occurs m t ≡ 0 → IsNew child W → occurs child t ≡ 0
  clear-at m e t o new = subst (λ z. occurs z t ≡ 0) (sym e ∙ sets.asked) o

  pub is-left : Left ≡ Right → ⊥
  is-left e = absurd (omega (arith, subst (λ z. IsOn z 1 0) e (omega arith)))

  pub unpassed : (m : ℕ) → h.child w q ≡ m → 0 < m → occurs m W ≡ 0 → ¬ IsBypassed u was
  unpassed m e some fresh b =
      absurd (omega (arith, some, sym e ∙ sets.asked ∙ may.passed b (subst (λ z. occurs z W ≡ 0) (sym e ∙ sets.asked) fresh)))

  pub apart-new : (m k v : ℕ) (l r : NamedTree) → occurs q (Branch m k v l r) ≡ 0 → ¬ (m ≡ q)
  apart-new m k v l r o e = absurd (omega (arith, o, subst (λ z. 0 < occurs z (Branch m k v l r)) e (omega (arith, one_at-same m))))

  -- a child that already hangs in the plain tree is not new
  pub lifted-in : (x : ℕ) (t : NamedTree) → x ≡ child → IsSpelled g x t → ((y : ℕ) → 0 < occurs y t → 0 < occurs y W) → IsNew child W → ⊥
  lifted-in x Null e spelled within new = absurd (omega (arith, e, spelled, new.0))
  lifted-in x (Branch c k v l r) e spelled within new =
      absurd (omega (arith, new.1, within child (subst (λ z. 0 < occurs z (Branch c k v l r)) (sym spelled.0 ∙ e) (omega (arith, one_at-same c)))))

  pub fresh-left : (m : ℕ) (l l' : NamedTree) → h.child w q ≡ m → 0 < m → occurs m W ≡ 0 → occurs q l' ≡ 0 → occurs m l' ≡ 0 → Matches u m Left l l' → Matches u' m Left l l'
  fresh-left m l l' e some fresh oq om matches =
      quiet S m Left l l' (λ b i t. absurd (is-left (near m e some fresh Left b i t).place)) oq (clear-at m e l' om) matches
