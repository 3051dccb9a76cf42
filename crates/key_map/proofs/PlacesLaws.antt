-- The places of a pass's own updates, when the history grows.
use Rattle.std.proofs.Common.{◌≡◌, ℕ, zero, suc, ◌+◌, ◌<◌, ◌≤◌, Bool, true, false, cond, List, [], ◌∷◌, ◌++◌, Some, inl, inr, length, take, eqb, refl, sym, ap, ◌∙◌, arith}
use Rattle.std.proofs.lemmas.Bool.Decides.{nat_tests}
use Rattle.std.proofs.lemmas.Bool.{cases_Bool, eqb-true}
use Rattle.std.proofs.lemmas.Option.{same_Some}
use Rattle.std.specs.List.{slice_get}
use Rattle.key_map.specs.declared.update.Update.{Update}
use Rattle.key_map.specs.Lists.{Every}
use Rattle.key_map.specs.History.{places_from, own_places}

places_from-own : (number at : ℕ) (us : List Update) (u : Update) → u.client ≡ number
    → places_from number at (us ++ u ∷ []) ≡ places_from number at us ++ (at + length us) ∷ []
places_from-own number at [] u e = grind (arith, nat_tests)
places_from-own number at (v ∷ us) u e = grind (arith, nat_tests, places_from-own number (at + 1) us u e)

-- one more update of its own
pub own_places-own : (number : ℕ) (us : List Update) (u : Update) → u.client ≡ number
    → own_places number (us ++ u ∷ []) ≡ own_places number us ++ (length us + 1) ∷ []
own_places-own number us u e = places_from-own number 1 us u e ∙ ap (λ (n : ℕ). places_from number 1 us ++ n ∷ []) (omega arith)

places_from-append : (number at : ℕ) (us vs : List Update) → places_from number at (us ++ vs) ≡ places_from number at us ++ places_from number (at + length us) vs
places_from-append number at [] vs = ap (λ (n : ℕ). places_from number n vs) (omega arith)
places_from-append number at (u ∷ us) vs = grind (arith, nat_tests, places_from-append number (at + 1) us vs)

pub own_places-append : (number : ℕ) (us vs : List Update) → own_places number (us ++ vs) ≡ own_places number us ++ places_from number (1 + length us) vs
own_places-append number us vs = places_from-append number 1 us vs

-- if the pass has no place, it has no update
pub none_own : (number at : ℕ) (us : List Update) → length (places_from number at us) ≡ 0 → (i : ℕ) (u : Update) → slice_get us i ≡ Some u → u.client ≡ number → ⊥
none_own number at [] e i u here own = cc
none_own number at (v ∷ us) e zero u here own =
    let same : v ≡ u = same_Some v u here in
    let mine : v.client ≡ number = ap (λ (w : Update). w.client) same ∙ own in
    grind (arith, nat_tests)
none_own number at (v ∷ us) e (suc i) u here own =
    elim (cases_Bool (eqb v.client number)) [
      | inl here_own ↦ grind (arith, nat_tests)
      | inr other ↦ none_own number (at + 1) us (rw other at e) i u here own
    ]

-- if no update from one place on is the pass's, the updates before that place have all its places
pub places_take : (number at : ℕ) (us : List Update) (k : ℕ) → ((i : ℕ) (u : Update) → k ≤ i → slice_get us i ≡ Some u → u.client ≡ number → ⊥)
    → places_from number at (take k us) ≡ places_from number at us
places_take number at [] zero none = refl
places_take number at [] (suc k) none = refl
places_take number at (u ∷ us) zero none =
    let rest = places_take number (at + 1) us zero (λ i v le here. none (suc i) v (omega arith) here) in
    let other : eqb u.client number ≡ false = not_own (eqb u.client number) (λ e. none zero u (omega arith) refl (eqb-true u.client number e)) in
    rest ∙ sym (ap (λ (b : Bool). cond b (at ∷ places_from number (at + 1) us) (places_from number (at + 1) us)) other)
  where
    not_own : (b : Bool) → (b ≡ true → ⊥) → b ≡ false
    not_own true differs = absurd (differs refl)
    not_own false differs = refl
places_take number at (u ∷ us) (suc k) none =
    ap (λ (ps : List ℕ). cond (eqb u.client number) (at ∷ ps) ps) (places_take number (at + 1) us k (λ i v le here. none (suc i) v (omega (arith, le)) here))

-- a place counted from `at` lies within the updates
pub places_within : (number at limit : ℕ) (us : List Update) → at + length us ≤ limit → Every (λ p. (at ≤ p) × (p < limit)) (places_from number at us)
places_within number at limit [] low = tt
places_within number at limit (u ∷ us) low =
    within_by (eqb u.client number)
    (every_le number at limit (places_from number (at + 1) us) (places_within number (at + 1) limit us (omega (arith, low))))
  where
    every_le : (number at limit : ℕ) (ps : List ℕ) → Every (λ p. (at + 1 ≤ p) × (p < limit)) ps → Every (λ p. (at ≤ p) × (p < limit)) ps
    every_le number at limit [] all = tt
    every_le number at limit (p ∷ ps) all = ((omega (arith, all.0.0), all.0.1), every_le number at limit ps all.1)

    within_by : (b : Bool) → Every (λ p. (at ≤ p) × (p < limit)) (places_from number (at + 1) us)
        → Every (λ p. (at ≤ p) × (p < limit)) (cond b (at ∷ places_from number (at + 1) us) (places_from number (at + 1) us))
    within_by true rest = ((omega arith, omega (arith, low)), rest)
    within_by false rest = rest
