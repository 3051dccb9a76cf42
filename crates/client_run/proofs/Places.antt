-- Elements of longer lists, and the updates that a call of a pass adds to its history.
use Rattle.std.proofs.Common.{◌≡◌, ℕ, zero, suc, ◌+◌, ◌-◌, ◌<◌, ◌≤◌, List, [], ◌∷◌, ◌++◌, Some, inl, inr, length, refl, sym, ap, ◌∙◌, arith}
use Rattle.std.specs.List.{slice_get}
use Rattle.std.proofs.lemmas.Bool.{cases_lt}
use Rattle.std.proofs.lemmas.Option.{same_Some, slice_get_within}
use Rattle.std.proofs.lemmas.List.{length-append, length_push, same_from_push}
use Rattle.key_map.specs.declared.update.Update.{Update}
use Rattle.key_map.specs.History.{own_places, places_from}
use Rattle.key_map.proofs.PlacesLaws.{own_places-append, own_places-own, none_own}

pub slice_get-append_front : {X : Type 0} (xs ys : List X) (i : ℕ) → i < length xs → slice_get (xs ++ ys) i ≡ slice_get xs i
slice_get-append_front [] ys i l = absurd (omega arith)
slice_get-append_front (x ∷ xs) ys zero l = refl
slice_get-append_front (x ∷ xs) ys (suc i) l = slice_get-append_front xs ys i (omega arith)

pub slice_get-append_back : {X : Type 0} (xs ys : List X) (i : ℕ) → length xs ≤ i → slice_get (xs ++ ys) i ≡ slice_get ys (i - length xs)
slice_get-append_back [] ys i l = let e : i ≡ i - 0 = omega arith in ap (λ (n : ℕ). slice_get ys n) e
slice_get-append_back (x ∷ xs) ys zero l = absurd (omega arith)
slice_get-append_back (x ∷ xs) ys (suc i) l =
    let e : i - length xs ≡ suc i - length (x ∷ xs) = omega arith in
    slice_get-append_back xs ys i (omega arith) ∙ ap (λ (n : ℕ). slice_get ys n) e

-- if the pass has the same places, no update of its own was added
pub no_own_added : (number : ℕ) (us more : List Update) → own_places number (us ++ more) ≡ own_places number us
    → (i : ℕ) (u : Update) → length us ≤ i → slice_get (us ++ more) i ≡ Some u → u.client ≡ number → ⊥
no_own_added number us more same i u from here own =
    let parts = own_places-append number us more in
    let count : length (places_from number (1 + length us) more) ≡ 0 =
    omega (arith, ap length parts, ap length same, length-append (own_places number us) (places_from number (1 + length us) more)) in
    none_own number (1 + length us) more count (i - length us) u (sym (slice_get-append_back us more i from) ∙ here) own

-- the front and the last element of a longer list
pub added_last : (us : List Update) (v u : Update) (i : ℕ) → length us ≤ i → slice_get (us ++ v ∷ []) i ≡ Some u
    → (u ≡ v) × (i + 1 ≡ length (us ++ v ∷ []))
added_last us v u i from here =
    let within : i < length (us ++ v ∷ []) = slice_get_within (us ++ v ∷ []) i u here in
    let long = length_push us v in
    let e : i - length us ≡ 0 = omega arith in
    let last : slice_get (v ∷ []) 0 ≡ Some u = ap (λ (n : ℕ). slice_get (v ∷ []) n) (sym e) ∙ sym (slice_get-append_back us (v ∷ []) i from) ∙ here in
    (sym (same_Some v u last), omega arith)

-- if the pass has one more place, its only update that was added is the last
pub own_added_last : (number at : ℕ) (us others : List Update) (v : Update) → v.client ≡ number
    → own_places number ((us ++ others) ++ v ∷ []) ≡ own_places number us ++ at ∷ []
    → (i : ℕ) (u : Update) → length us ≤ i → slice_get ((us ++ others) ++ v ∷ []) i ≡ Some u → u.client ≡ number
    → (u ≡ v) × (i + 1 ≡ length ((us ++ others) ++ v ∷ []))
own_added_last number at us others v mine places i u from here own =
    let grown = own_places-own number (us ++ others) v mine in
    let same : own_places number (us ++ others) ≡ own_places number us = (same_from_push _ _ _ _ (sym grown ∙ places)).0 in
    elim (cases_lt i (length (us ++ others))) [
      | inl front ↦ absurd (no_own_added number us others same i u from (sym (slice_get-append_front (us ++ others) (v ∷ []) i front) ∙ here) own)
      | inr back ↦ added_last (us ++ others) v u i back here
    ]
