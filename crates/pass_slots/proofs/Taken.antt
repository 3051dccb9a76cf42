-- A slot that stands once in a list, looked for from the end and taken out.
use Rattle.std.proofs.Common.{◌≡◌, ℕ, zero, suc, ◌+◌, ◌<◌, List, [], ◌∷◌, ◌++◌, length, take, drop, get_or, cond, not, Bool, true, false, eqb, arith, refl, ap, ◌∙◌, sym, inl, inr, ◌||◌, ◌⊎◌, Some}
use Rattle.std.specs.List.{slice_get}
use Rattle.std.proofs.lemmas.Bool.{eq-eqb, ne_eqb, eqb-true, eqb-false}
use Rattle.std.proofs.lemmas.List.{take_more}
use Rattle.key_map.specs.Lists.{count, has}
use Rattle.key_map.proofs.Counting.{count-append}
use Rattle.core_events.specs.UpdateMoves.{without, without_all, listed_entry}

-- where the slot is among the first places, and not at the last of them, it is among the others
pub still_before : (slot : ℕ) (xs : List ℕ) (at n : ℕ) → at < length xs → n ≡ at + 1 → (get_or xs at 0 ≡ slot → ⊥) → 0 < count slot (take n xs) → 0 < count slot (take at xs)
still_before slot xs at n low next other some =
    let parts : count slot (take n xs) ≡ count slot (take at xs) + (cond (eqb (get_or xs at 0) slot) 1 0 + 0)
    = ap (λ k. count slot (take k xs)) next ∙ ap (count slot) (take_more xs at 0 low) ∙ count-append slot (take at xs) (get_or xs at 0 ∷ []) in
    let none : cond (eqb (get_or xs at 0) slot) 1 0 + 0 ≡ 0 = ap (λ b. cond b 1 0 + 0) (ne_eqb (get_or xs at 0) slot other) in
    omega (arith, some, parts, none)

count_other : (d e : ℕ) (xs : List ℕ) → (d ≡ e → ⊥) → count d (without e xs) ≡ count d xs
count_other d e [] apart = refl
count_other d e (x ∷ xs) apart = by_test (eqb x e) refl (count_other d e xs apart)
  where
    by_test : (b : Bool) → eqb x e ≡ b → count d (without e xs) ≡ count d xs → count d (cond (not b) (x ∷ without e xs) (without e xs)) ≡ cond (eqb x d) 1 0 + count d xs
    by_test true is rest = omega (arith, rest, ap (λ c. 0 + cond c 1 0) (ne_eqb x d (λ same. apart (sym same ∙ eqb-true x e is))))
    by_test false is rest = ap (λ n. cond (eqb x d) 1 0 + n) rest

without_none : (slot : ℕ) (xs : List ℕ) → count slot xs ≡ 0 → without slot xs ≡ xs
without_none slot [] none = refl
without_none slot (x ∷ xs) none = by_test (eqb x slot) none (without_none slot xs)
  where
    by_test : (b : Bool) → cond b 1 0 + count slot xs ≡ 0 → (count slot xs ≡ 0 → without slot xs ≡ xs) → cond (not b) (x ∷ without slot xs) (without slot xs) ≡ x ∷ xs
    by_test true none rest = absurd (omega (arith, none))
    by_test false none rest = ap (λ ys. x ∷ ys) (rest (omega (arith, none)))

counted : (slot : ℕ) (xs : List ℕ) (at : ℕ) → slice_get xs at ≡ Some slot → 0 < count slot xs
counted slot [] at is = cc
counted slot (x ∷ xs) zero is = here (eqb x slot) (eq-eqb x slot (some_is x slot is))
  where
    some_is : (a b : ℕ) → Some a ≡ Some b → a ≡ b
    some_is a b is = cc

    here : (b : Bool) → b ≡ true → 0 < cond b 1 0 + count slot xs
    here true is = omega arith
    here false is = cc
counted slot (x ∷ xs) (suc at) is = omega (arith, counted slot xs at is)

removed_at : (slot : ℕ) (xs : List ℕ) (at : ℕ) → slice_get xs at ≡ Some slot → count slot xs ≡ 1 → take at xs ++ drop (suc at) xs ≡ without slot xs
removed_at slot [] at is once = cc
removed_at slot (x ∷ xs) zero is once = here (eqb x slot) (eq-eqb x slot (some_is x slot is)) once
  where
    some_is : (a b : ℕ) → Some a ≡ Some b → a ≡ b
    some_is a b is = cc

    here : (b : Bool) → b ≡ true → cond b 1 0 + count slot xs ≡ 1 → xs ≡ cond (not b) (x ∷ without slot xs) (without slot xs)
    here true is once = sym (without_none slot xs (omega (arith, once)))
    here false is once = cc
removed_at slot (x ∷ xs) (suc at) is once = there (eqb x slot) once (removed_at slot xs at is)
  where
    there : (b : Bool) → cond b 1 0 + count slot xs ≡ 1 → (count slot xs ≡ 1 → take at xs ++ drop (suc at) xs ≡ without slot xs)
        → x ∷ (take at xs ++ drop (suc at) xs) ≡ cond (not b) (x ∷ without slot xs) (without slot xs)
    there true once rest = absurd (omega (arith, once, counted slot xs at is))
    there false once rest = ap (λ ys. x ∷ ys) (rest (omega (arith, once)))

pub removed_is : (slot : ℕ) (xs : List ℕ) (at : ℕ) → slice_get xs at ≡ Some slot → count slot xs ≡ 1 → take at xs ++ drop (at + 1) xs ≡ without slot xs
removed_is slot xs at is once =
    let next : at + 1 ≡ suc at = omega arith in
    ap (λ k. take at xs ++ drop k xs) next ∙ removed_at slot xs at is once

-- lists without none, one and more numbers
pub without_empty : (xs : List ℕ) → without_all [] xs ≡ xs
without_empty [] = refl
without_empty (x ∷ xs) = ap (λ ys. x ∷ ys) (without_empty xs)

same_test : (a x : ℕ) → (eqb a x || false) ≡ eqb x a
same_test a x = by_test (eqb a x) (eqb x a) refl refl
  where
    by_test : (b c : Bool) → eqb a x ≡ b → eqb x a ≡ c → (b || false) ≡ c
    by_test true false one two = absurd (eqb-false x a two (sym (eqb-true a x one)))
    by_test false true one two = absurd (eqb-false a x one (sym (eqb-true x a two)))
    by_test _ _ one two = refl

pub without_single : (a : ℕ) (xs : List ℕ) → without_all (a ∷ []) xs ≡ without a xs
without_single a [] = refl
without_single a (x ∷ xs) = ap (λ b. cond (not b) (x ∷ without_all (a ∷ []) xs) (without_all (a ∷ []) xs)) (same_test a x) ∙ ap (λ ys. cond (not (eqb x a)) (x ∷ ys) ys) (without_single a xs)

pub without_zero : (a : ℕ) (xs : List ℕ) → a ≡ 0 → without_all (listed_entry a) xs ≡ xs
without_zero a xs none = ap (λ b. without_all (cond b [] (a ∷ [])) xs) (eq-eqb a 0 none) ∙ without_empty xs

-- without two lists
has_append : (x : ℕ) (us ws : List ℕ) → has x (us ++ ws) ≡ (has x us || has x ws)
has_append x [] ws = refl
has_append x (a ∷ us) ws = ap (λ c. eqb a x || c) (has_append x us ws) ∙ assoc (eqb a x) (has x us) (has x ws)
  where
    assoc : (a b c : Bool) → (a || (b || c)) ≡ ((a || b) || c)
    assoc true b c = refl
    assoc false b c = refl

pub without_both : (us ws xs : List ℕ) → without_all (us ++ ws) xs ≡ without_all ws (without_all us xs)
without_both us ws [] = refl
without_both us ws (x ∷ xs) = ap (λ c. cond (not c) (x ∷ without_all (us ++ ws) xs) (without_all (us ++ ws) xs)) (has_append x us ws) ∙ by_test (has x us) (has x ws) refl (without_both us ws xs)
  where
    by_test : (p q : Bool) → has x ws ≡ q → without_all (us ++ ws) xs ≡ without_all ws (without_all us xs)
        → cond (not (p || q)) (x ∷ without_all (us ++ ws) xs) (without_all (us ++ ws) xs) ≡ without_all ws (cond (not p) (x ∷ without_all us xs) (without_all us xs))
    by_test true q is rest = rest
    by_test false true is rest = rest ∙ sym (ap (λ c. cond (not c) (x ∷ without_all ws (without_all us xs)) (without_all ws (without_all us xs))) is)
    by_test false false is rest = ap (λ ys. x ∷ ys) rest ∙ sym (ap (λ c. cond (not c) (x ∷ without_all ws (without_all us xs)) (without_all ws (without_all us xs))) is)

-- another number still stands as often in the list
pub count_after : (a b : ℕ) (xs : List ℕ) → (a ≡ b → a ≡ 0) → (b ≡ 0) ⊎ (count b xs ≡ 1) → (b ≡ 0) ⊎ (count b (without_all (listed_entry a) xs) ≡ 1)
count_after a b xs apart (inl none) = inl none
count_after a b xs apart (inr once) = by_test (eqb a 0) refl
  where
    other : eqb a 0 ≡ false → b ≡ a → ⊥
    other is same = eqb-false a 0 is (apart (sym same))

    by_test : (c : Bool) → eqb a 0 ≡ c → (b ≡ 0) ⊎ (count b (without_all (cond c [] (a ∷ [])) xs) ≡ 1)
    by_test true is = inr (ap (count b) (without_empty xs) ∙ once)
    by_test false is = inr (ap (count b) (without_single a xs) ∙ count_other b a xs (other is) ∙ once)
