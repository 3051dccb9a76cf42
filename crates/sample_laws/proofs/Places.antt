-- The updates of one client, up to the places of its replies: between two of these places only the later request can
-- have made one.
use Rattle.std.proofs.Common.{◌≡◌, ℕ, zero, suc, ◌+◌, ◌<◌, ◌≤◌, ◌⊎◌, Bool, false, cond, List, [], ◌∷◌, ◌++◌, length, take, eqb, refl, sym, ap, ◌∙◌, subst, arith, inl, inr, All, Any, Option, Some, None, slice_index_or}
use Rattle.std.specs.Bool.{⊤}
use Rattle.std.specs.Option.{MatchOption, IfSome}
use Rattle.std.specs.List.{slice_get}
use Rattle.std.proofs.lemmas.Bool.{eqb-true, false_from_ne_true}
use Rattle.std.proofs.lemmas.List.{take_all}
use Rattle.std.proofs.lemmas.List.Elements.{All-nil, All-push, All-weaker}
use Rattle.std.proofs.lemmas.Option.{same_Some}
use Rattle.key_map.specs.declared.update.Update.{Update}
use Rattle.bucket_terms.specs.declared.reply.Placed.{Placed}
use Rattle.bucket_terms.specs.LegalRun.{RequestLine, Setting, Answered, IsOf, update_at, KeepsOrder, AreAnswered, answered_lines, IsMadeBy}
use Rattle.bucket_terms.specs.RunParts.{IsPlacedUpTo, IsPlacedBelow}
use Rattle.sample_laws.specs.Own.{updates_of}

-- ---- an item of a list

any_cons : {X : Type 0} (P : X → Type 0) (x : X) (xs : List X) → Any P (x ∷ xs) → P x ⊎ Any P xs
any_cons {X} P x xs h = by_place h.0 h.1 h.2 h.3 h.4
  where
    by_place : (k : ℕ) (y : X) → k < suc (length xs) → slice_index_or (x ∷ xs) k y ≡ y → P y → P x ⊎ Any P xs
    by_place zero y lt e p = inl (subst P (sym e) p)
    by_place (suc k) y lt e p = inr (k, y, omega arith, e, p)

any_more : {X : Type 0} (P : X → Type 0) (x : X) (xs : List X) → Any P xs → Any P (x ∷ xs)
any_more P x xs h = let below : h.0 < length xs = h.2 in (suc h.0, h.1, omega arith, h.3, h.4)

any_append : {X : Type 0} (P : X → Type 0) (xs ys : List X) → Any P (xs ++ ys) → Any P xs ⊎ Any P ys
any_append P [] ys h = inr h
any_append P (x ∷ xs) ys h =
    elim (any_cons P x (xs ++ ys) h) [
      | inl first ↦ inl (zero, x, omega arith, refl, first)
      | inr more ↦ elim (any_append P xs ys more) [
        | inl here ↦ inl (any_more P x xs here)
        | inr there ↦ inr there
      ]
    ]

-- what holds of each item holds of this one
pub any_all : {X : Type 0} (P Q : X → Type 0) (xs : List X) → Any P xs → All Q xs → (x : X) × (P x × Q x)
any_all P Q xs h all = (h.1, (h.4, subst Q h.3 (all h.0 h.1 h.2)))

pub last_of : {X : Type 0} (P : X → Type 0) (xs : List X) (x : X) → All P (xs ++ x ∷ []) → P x
last_of P [] x all = all zero x (omega arith)
last_of P (y ∷ xs) x all = last_of P xs x (λ k d below. all (suc k) d (omega arith))

pub front_of : {X : Type 0} (P : X → Type 0) (xs : List X) (x : X) → All P (xs ++ x ∷ []) → All P xs
front_of P [] x all = All-nil P
front_of {X} P (y ∷ xs) x all = by_place (all zero y (omega arith)) (front_of P xs x (λ k d below. all (suc k) d (omega arith)))
  where
    by_place : P y → All P xs → (k : ℕ) (d : X) → k < suc (length xs) → P (slice_index_or (y ∷ xs) k d)
    by_place first rest zero d below = first
    by_place first rest (suc k) d below = rest k d (omega arith)

-- ---- the first updates of a list

take_nil : {X : Type 0} (n : ℕ) → take {A = X} n [] ≡ []
take_nil zero = refl
take_nil (suc n) = refl

pub take_next : {X : Type 0} (xs : List X) (i : ℕ) (x : X) → slice_get xs i ≡ Some x → take (suc i) xs ≡ take i xs ++ x ∷ []
take_next [] i x e = cc
take_next {X} (y ∷ xs) zero x e = ap (λ (z : X). z ∷ []) (same_Some y x e)
take_next {X} (y ∷ xs) (suc i) x e = ap (λ (zs : List X). y ∷ zs) (take_next xs i x e)

pub take_past : {X : Type 0} (xs : List X) (i : ℕ) → slice_get xs i ≡ None → take (suc i) xs ≡ take i xs
take_past [] zero e = refl
take_past [] (suc i) e = refl
take_past (y ∷ xs) zero e = cc
take_past {X} (y ∷ xs) (suc i) e = ap (λ (zs : List X). y ∷ zs) (take_past xs i e)

pub updates_of-push : (client : ℕ) (us : List Update) (u : Update) → updates_of client (us ++ u ∷ []) ≡ updates_of client us ++ updates_of client (u ∷ [])
updates_of-push client [] u = refl
updates_of-push client (v ∷ us) u =
    let rest = updates_of-push client us u in grind arith

-- if no update from the place `p` on is the client's, the first `p` have all of its updates
pub none_between : (client : ℕ) (us : List Update) (p t : ℕ) → p ≤ t
    → ((i : ℕ) (u : Update) → p ≤ i → i < t → slice_get us i ≡ Some u → u.client ≡ client → ⊥)
    → updates_of client (take t us) ≡ updates_of client (take p us)
none_between client [] p t le none = ap (updates_of client) (take_nil t ∙ sym (take_nil p))
none_between client (u ∷ us) zero zero le none = refl
none_between client (u ∷ us) zero (suc t) le none =
    let rest = none_between client us zero t (omega arith) (λ i v low below here own. none (suc i) v (omega arith) (omega arith) here own) in
    let other : eqb u.client client ≡ false =
    false_from_ne_true _ (λ own. none zero u (omega arith) (omega arith) refl (eqb-true u.client client own)) in
    ap (λ (b : Bool). cond b (u ∷ updates_of client (take t us)) (updates_of client (take t us))) other ∙ rest
none_between client (u ∷ us) (suc p) zero le none = absurd (omega arith)
none_between client (u ∷ us) (suc p) (suc t) le none =
    ap (λ (vs : List Update). cond (eqb u.client client) (u ∷ vs) vs)
    (none_between client us p t (omega arith) (λ i v low below here own. none (suc i) v (omega arith) (omega arith) here own))

-- ---- the updates of the client

-- those among the first `t` updates
abbrev pub own_upto : Setting → ℕ → List Update
own_upto s t = updates_of s.client (take t s.updates)

-- each update of the client is made by one of these requests
abbrev pub AreMadeBy : Setting → List Answered → Type 0
AreMadeBy s answers = (i : ℕ) (u : Update) → slice_get s.updates i ≡ Some u → u.client ≡ s.client → Any (IsMadeBy s.dir u (i + 1)) answers

-- the greatest place of these answers, or 0
pub record IsFront (earlier : List Answered) (p : ℕ) : Type 0 where
  pub upto : All (IsPlacedUpTo p) earlier
  pub least : (q : ℕ) → All (IsPlacedUpTo q) earlier → p ≤ q

pub front_start : IsFront [] 0
front_start = record { upto = All-nil (IsPlacedUpTo 0); least = λ q all. omega arith }

pub front_placed : (s : Setting) (earlier : List Answered) (a : Answered) (q : ℕ) → a.placed.at ≡ Some q → KeepsOrder s earlier a.asked.line q → IsFront (earlier ++ a ∷ []) q
front_placed s earlier a q at order = record {
  upto = All-push (IsPlacedUpTo q) earlier a order.not_below (subst (λ (o : Option ℕ). MatchOption o ⊤ (λ place. place ≤ q)) (sym at) (omega arith));
  least = λ r all. subst (λ (o : Option ℕ). MatchOption o ⊤ (λ place. place ≤ r)) at (last_of (IsPlacedUpTo r) earlier a all);
}

pub front_refused : (earlier : List Answered) (a : Answered) (p : ℕ) → a.placed.at ≡ None → IsFront earlier p → IsFront (earlier ++ a ∷ []) p
front_refused earlier a p at front = record {
  upto = All-push (IsPlacedUpTo p) earlier a front.upto (subst (λ (o : Option ℕ). MatchOption o ⊤ (λ place. place ≤ p)) (sym at) tt);
  least = λ r all. front.least r (front_of (IsPlacedUpTo r) earlier a all);
}

-- ---- the order of a client's answers

pub order_at : (s : Setting) (earlier : List Answered) (line : ℕ) (o : Option ℕ) (at : ℕ) → o ≡ Some at → MatchOption o ⊤ (KeepsOrder s earlier line) → KeepsOrder s earlier line at
order_at s earlier line None at e h = cc
order_at s earlier line (Some at') at e h = subst (KeepsOrder s earlier line) (same_Some at' at e) h

if_some : (P : Update → Type 0) (o : Option Update) (u : Update) → o ≡ Some u → IfSome o P → P u
if_some P None u e h = cc
if_some P (Some v) u e h = subst P (same_Some v u e) h

-- the place of the client's own update is above those of all earlier answers
pub own_above : (s : Setting) (earlier : List Answered) (line at : ℕ) (u : Update) → KeepsOrder s earlier line at → update_at s at ≡ Some u → IsOf s line u → All (IsPlacedBelow at) earlier
own_above s earlier line at u order here of = if_some (λ (v : Update). IsOf s line v → All (IsPlacedBelow at) earlier) (update_at s at) u here order.above of

pub update_at-next : (s : Setting) (i : ℕ) → update_at s (i + 1) ≡ slice_get s.updates i
update_at-next s i = let e : i + 1 ≡ suc i = omega arith in rw e refl

below_upto : (p : ℕ) (a : Answered) → IsPlacedBelow (p + 1) a → IsPlacedUpTo p a
below_upto p a h = by_option a.placed.at h
  where
    by_option : (o : Option ℕ) → MatchOption o ⊤ (λ place. place < p + 1) → MatchOption o ⊤ (λ place. place ≤ p)
    by_option None h = tt
    by_option (Some place) h = omega arith

-- and so above the front
pub own_behind : (earlier : List Answered) (p i : ℕ) → IsFront earlier p → All (IsPlacedBelow (i + 1)) earlier → p < i + 1
own_behind earlier p i front all =
    let low : p ≤ i = front.least i (All-weaker (IsPlacedBelow (i + 1)) (IsPlacedUpTo i) (below_upto i) earlier all) in omega arith

-- an update of the client that a later request makes stands above the earlier answers
later_above : (s : Setting) (earlier : List Answered) (lines : List RequestLine) (replies : List Placed) → AreAnswered s earlier lines replies
    → (i : ℕ) (u : Update) → slice_get s.updates i ≡ Some u → u.client ≡ s.client
    → Any (IsMadeBy s.dir u (i + 1)) (answered_lines lines replies) → All (IsPlacedBelow (i + 1)) earlier
later_above s earlier [] [] h i u here own made = absurd (omega (arith, made.2))
later_above s earlier [] (r ∷ replies) h i u here own made = absurd h
later_above s earlier (l ∷ lines) [] h i u here own made = absurd h
later_above s earlier (l ∷ lines) (r ∷ replies) h i u here own made =
    let a : Answered = record { asked = l; placed = r } in
    elim (any_cons (IsMadeBy s.dir u (i + 1)) a (answered_lines lines replies) made) [
      | inl by ↦
          own_above s earlier l.line (i + 1) u (order_at s earlier l.line r.at (i + 1) by.place h.0.order)
          (update_at-next s i ∙ here) (record { by = own; for_line = sym by.line })
      | inr later ↦ front_of (IsPlacedBelow (i + 1)) earlier a (later_above s (earlier ++ a ∷ []) lines replies h.1 i u here own later)
    ]

-- the client's updates after the front, up to the place of the next answer, are the next request's
pub own_here : (s : Setting) (earlier : List Answered) (a : Answered) (lines : List RequestLine) (replies : List Placed) (p q : ℕ)
    → IsFront earlier p → a.placed.at ≡ Some q → AreAnswered s (earlier ++ a ∷ []) lines replies
    → AreMadeBy s (earlier ++ a ∷ answered_lines lines replies)
    → (i : ℕ) (u : Update) → p ≤ i → i < q → slice_get s.updates i ≡ Some u → u.client ≡ s.client → IsMadeBy s.dir u (i + 1) a
own_here s earlier a lines replies p q front at rest made i u low below here own =
    elim (any_append (IsMadeBy s.dir u (i + 1)) earlier (a ∷ answered_lines lines replies) (made i u here own)) [
      | inl early ↦
          let both = any_all (IsMadeBy s.dir u (i + 1)) (IsPlacedUpTo p) earlier early front.upto in
          let upto : i + 1 ≤ p = subst (λ (o : Option ℕ). MatchOption o ⊤ (λ place. place ≤ p)) both.1.0.place both.1.1 in
          absurd (omega arith)
      | inr late ↦ elim (any_cons (IsMadeBy s.dir u (i + 1)) a (answered_lines lines replies) late) [
        | inl by ↦ by
        | inr later ↦
            let above = last_of (IsPlacedBelow (i + 1)) earlier a (later_above s (earlier ++ a ∷ []) lines replies rest i u here own later) in
            let high : q < i + 1 = subst (λ (o : Option ℕ). MatchOption o ⊤ (λ place. place < i + 1)) at above in
            absurd (omega arith)
      ]
    ]

-- no update of the client after the last answer
pub none_left : (s : Setting) (earlier : List Answered) (p : ℕ) → IsFront earlier p → AreMadeBy s (earlier ++ [])
    → updates_of s.client s.updates ≡ own_upto s p
none_left s earlier p front made =
    let all = take_all (p + length s.updates) s.updates (omega arith) in
    sym (ap (updates_of s.client) all)
    ∙ none_between s.client s.updates p (p + length s.updates) (omega arith) (λ i u low below here own.
    elim (any_append (IsMadeBy s.dir u (i + 1)) earlier [] (made i u here own)) [
      | inl early ↦
          let both = any_all (IsMadeBy s.dir u (i + 1)) (IsPlacedUpTo p) earlier early front.upto in
          let upto : i + 1 ≤ p = subst (λ (o : Option ℕ). MatchOption o ⊤ (λ place. place ≤ p)) both.1.0.place both.1.1 in
          absurd (omega arith)
      | inr nowhere ↦ absurd (omega (arith, nowhere.2))
    ])
