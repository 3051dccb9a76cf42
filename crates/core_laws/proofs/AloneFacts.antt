-- Numbers of passes, places of updates and chains, for the question who did something.
use Rattle.std.proofs.Common.{◌≡◌, ℕ, zero, suc, ◌+◌, ◌-◌, ◌<◌, ◌≤◌, ◌⊎◌, cond, List, [], ◌∷◌, length, Bool, true, false, eqb, ltb, ◌&&◌, arith, refl, ap, ◌∙◌, sym, subst, inl, inr, Option, Some, None}
use Rattle.std.specs.List.{slice_get}
use Rattle.std.proofs.lemmas.Bool.{eqb-true, eq-eqb}
use Rattle.std.proofs.lemmas.Bool.Decides.{nat_tests}
use Rattle.index_words.specs.declared.view.View.{View}
use Rattle.index_words.specs.declared.view.history.EndedPlace.{EndedPlace}
use Rattle.key_map.specs.declared.update.Update.{Update}
use Rattle.key_map.specs.Lists.{count, Every}
use Rattle.core_grace.specs.Slots.{own}
use Rattle.core_links.specs.Bundle.{IsChain}
use Rattle.core_invariant.specs.Histories.{IsGiven, update_at, made_by, own_place, ended_place}
use Rattle.core_invariant.specs.Numbers.{number_count}
use Rattle.core_invariant.specs.OwnPlaces.{HasNumber}
use Rattle.core_invariant.proofs.Idle.{own_count}

-- a pass number that a view has counts
pub counted : (n : ℕ) (u : View) → HasNumber u n → 0 < number_count n u
counted n u (inl own) = omega (arith, own_count n u.number own)
counted n u (inr given) = omega (arith, given)

pub number_there : (n passes : ℕ) → 0 < 0 + cond (ltb n passes) 1 0 → n < passes
number_there n passes some = grind (arith, nat_tests)

-- a view that holds a place of a pass has the pass's number
pub own_placed : (n p : ℕ) (o : Option ℕ) (mine : List ℕ) → 0 < own_place n p o mine → o ≡ Some n
own_placed n p None mine some = absurd (omega (arith, some))
own_placed n p (Some k) mine some = by_test (eqb k n) refl some
  where
    by_test : (b : Bool) → eqb k n ≡ b → 0 < cond b (count p mine) 0 → Some k ≡ Some n
    by_test true is some = let same : k ≡ n = eqb-true k n is in ap Some same
    by_test false is some = absurd (omega (arith, some))

-- and where it was none of its own, the place was given up to it
pub placed_mine : (n p : ℕ) (o : Option ℕ) (mine : List ℕ) → count p mine ≡ 0 → own_place n p o mine ≡ 0
placed_mine n p None mine none = refl
placed_mine n p (Some k) mine none = by_test (eqb k n)
  where
    by_test : (b : Bool) → cond b (count p mine) 0 ≡ 0
    by_test true = none
    by_test false = refl

pub given_placed : (n p : ℕ) (ended : List ℕ) (ps : List EndedPlace) → Every (IsGiven ended) ps → 0 < ended_place n p ps → 0 < count n ended
given_placed n p ended [] all some = absurd (omega (arith, some))
given_placed n p ended (q ∷ ps) all some = by_tests (eqb q.pass n) (eqb q.at p) refl some (given_placed n p ended ps all.1)
  where
    by_tests : (a b : Bool) → eqb q.pass n ≡ a → 0 < cond (a && b) 1 0 + ended_place n p ps → (0 < ended_place n p ps → 0 < count n ended) → 0 < count n ended
    by_tests true b is some rest = let same : q.pass ≡ n = eqb-true q.pass n is in subst (λ k. 0 < count k ended) same all.0
    by_tests false b is some rest = rest (omega (arith, some))

-- a view with a number of its own, or that was given one
pub some_number : (o : Option ℕ) (ended : List ℕ) → ((o ≡ None) × (ended ≡ []) → ⊥) → (n : ℕ) × ((o ≡ Some n) ⊎ (0 < count n ended))
some_number (Some n) ended named = (n, inl refl)
some_number None (n ∷ ended) named = (n, inr (omega (arith, ap (λ b. cond b 1 0 + count n ended) (eq-eqb n n refl))))
some_number None [] named = absurd (named (refl, refl))

-- the update at a place within the history
pub update_there : (us : List Update) (p : ℕ) → 0 < p → p ≤ length us → (u : Update) × (update_at us p ≡ Some u)
update_there us p low high =
    let found = there us (p - 1) (omega (arith, low, high)) in
    (found.0, ap (λ b. cond b None (slice_get us (p - 1))) (not_zero p low) ∙ found.1)
  where
    not_zero : (p : ℕ) → 0 < p → eqb p 0 ≡ false
    not_zero p low = grind (arith, nat_tests)

    there : (us : List Update) (p : ℕ) → p < length us → (u : Update) × (slice_get us p ≡ Some u)
    there [] p high = absurd (omega (arith, high))
    there (u ∷ us) zero high = (u, refl)
    there (u ∷ us) (suc p) high = there us p (omega (arith, high))

pub own_made : (u : Update) → made_by u.client (Some u) ≡ 1
own_made u = omega (arith, ap (λ (b : Bool). 0 + cond b 1 0) (eq-eqb u.client u.client refl))

-- a chain from a head begins with the head
pub chain_begins : (next : ℕ → ℕ) (head : ℕ) (es : List ℕ) → IsChain next head es → 0 < head → 0 < count head es
chain_begins next head [] chain some = absurd (omega (arith, chain, some))
chain_begins next head (e ∷ es) chain some = omega (arith, ap (λ b. cond b 1 0 + count head es) (eq-eqb e head (sym chain.0)))

-- and from 0 it has no entry
pub chain_ends : (next : ℕ → ℕ) (head : ℕ) (es : List ℕ) → IsChain next head es → head ≡ 0 → es ≡ []
chain_ends next head [] chain none = refl
chain_ends next head (e ∷ es) chain none = absurd (omega (arith, chain.0, chain.1, none))
