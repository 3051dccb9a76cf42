-- What is kept of looks, after each of them.
use Rattle.std.proofs.Common.{◌≡◌, ◌≢◌, ℕ, zero, suc, ◌<◌, List, [], ◌∷◌, ◌++◌, replicate, cond, Bool, true, false, eqb, ◌||◌, arith, refl, ap, ◌∙◌, sym, subst, inl, inr, set, get_or, Option, Some, None, is_some, find, length}
use Rattle.std.specs.List.{slice_get}
use Rattle.std.specs.Option.{option_map}
use Rattle.std.proofs.lemmas.Bool.{eq-eqb, ne_eqb}
use Rattle.std.proofs.lemmas.Bool.Decides.{eqb_tells}
use Rattle.index_words.specs.declared.view.slots.Looks.{Looks}
use Rattle.index_words.specs.declared.view.slots.SectionFound.{SectionFound}
use Rattle.index_words.specs.Views.{no_looks}
use Rattle.key_map.specs.Lists.{has}
use Rattle.core_grace.specs.Batches.{first_found, lets_pass, looked_at}
use Rattle.pass_slots.specs.Owned.{Shown, KeepsLooks}

get_replicate : {X : Type 0} (x : X) (k n : ℕ) → n < k → slice_get (replicate k x) n ≡ Some x
get_replicate x zero n low = absurd (omega (arith, low))
get_replicate x (suc k) zero low = refl
get_replicate x (suc k) (suc n) low = get_replicate x k n (omega (arith, low))

pub none_kept : KeepsLooks no_looks (record { first = replicate 32 None; passed = replicate 32 false })
none_kept n low = (get_replicate None 32 n low, get_replicate false 32 n low)

get_within : {X : Type 0} (xs : List X) (i : ℕ) (x : X) → slice_get xs i ≡ Some x → i < length xs
get_within [] i x is = cc
get_within (y ∷ xs) zero x is = omega arith
get_within (y ∷ xs) (suc i) x is = omega (arith, get_within xs i x is)

get_set : {X : Type 0} (xs : List X) (i : ℕ) (x y : X) → slice_get xs i ≡ Some x → slice_get (set xs i y) i ≡ Some y
get_set [] i x y is = cc
get_set (z ∷ xs) zero x y is = refl
get_set (z ∷ xs) (suc i) x y is = get_set xs i x y is

get_read : {X : Type 0} (xs : List X) (i : ℕ) (x d : X) → slice_get xs i ≡ Some x → get_or xs i d ≡ x
get_read (y ∷ xs) (suc i) x d is = get_read xs i x d is
get_read _ _ x d is = cc

get_other : {X : Type 0} (xs : List X) (i j : ℕ) (y : X) → j ≢ i → slice_get (set xs i y) j ≡ slice_get xs j
get_other (z ∷ xs) zero zero y apart = absurd (apart refl)
get_other (z ∷ xs) (suc i) (suc j) y apart = get_other xs i j y (λ e. apart (ap suc e))
get_other _ _ _ y apart = refl

or_assoc : (a b c : Bool) → (a || (b || c)) ≡ ((a || b) || c)
or_assoc true b c = refl
or_assoc false b c = refl

or_false : (a : Bool) → (a || false) ≡ a
or_false true = refl
or_false false = refl

or_true : (a b : Bool) → b ≡ true → (a || b) ≡ true
or_true true b is = refl
or_true false b is = is

has_push : (n x : ℕ) (xs : List ℕ) → has n (xs ++ x ∷ []) ≡ (has n xs || eqb x n)
has_push n x [] = or_false (eqb x n)
has_push n x (y ∷ xs) = ap (λ b. eqb y n || b) (has_push n x xs) ∙ or_assoc (eqb y n) (has n xs) (eqb x n)

abbrev word_in : Option SectionFound → Option ℕ
word_in o = option_map (λ (f : SectionFound). f.word) o

-- what was found first, with one more
found_push : (n : ℕ) (f : SectionFound) (fs : List SectionFound) → first_found n fs ≡ None → first_found n (fs ++ f ∷ []) ≡ cond (eqb f.pass n) (Some f.word) None
found_push n f [] none = by_test (eqb f.pass n)
  where
    by_test : (b : Bool) → word_in (cond b (Some f) None) ≡ cond b (Some f.word) None
    by_test true = refl
    by_test false = refl
found_push n f (g ∷ fs) none = by_test (eqb g.pass n) (found_push n f fs) none
  where
    by_test : (b : Bool) → (first_found n fs ≡ None → first_found n (fs ++ f ∷ []) ≡ cond (eqb f.pass n) (Some f.word) None)
        → word_in (cond b (Some g) (find (λ (f : SectionFound). eqb f.pass n) fs)) ≡ None
        → word_in (cond b (Some g) (find (λ (f : SectionFound). eqb f.pass n) (fs ++ f ∷ []))) ≡ cond (eqb f.pass n) (Some f.word) None
    by_test true rest none = cc
    by_test false rest none = rest none

found_kept : (n : ℕ) (f : SectionFound) (fs : List SectionFound) → f.pass ≢ n → first_found n (fs ++ f ∷ []) ≡ first_found n fs
found_kept n f [] apart = ap (λ b. word_in (cond b (Some f) None)) (ne_eqb f.pass n apart)
found_kept n f (g ∷ fs) apart = by_test (eqb g.pass n) (found_kept n f fs apart)
  where
    by_test : (b : Bool) → first_found n (fs ++ f ∷ []) ≡ first_found n fs → word_in (cond b (Some g) (find (λ (f : SectionFound). eqb f.pass n) (fs ++ f ∷ []))) ≡ word_in (cond b (Some g) (find (λ (f : SectionFound). eqb f.pass n) fs))
    by_test true rest = refl
    by_test false rest = rest

found_there : (n : ℕ) (f : SectionFound) (fs : List SectionFound) → is_some (first_found n fs) ≡ true → first_found n (fs ++ f ∷ []) ≡ first_found n fs
found_there n f [] some = cc
found_there n f (g ∷ fs) some = by_test (eqb g.pass n) (found_there n f fs) some
  where
    by_test : (b : Bool) → (is_some (first_found n fs) ≡ true → first_found n (fs ++ f ∷ []) ≡ first_found n fs)
        → is_some (word_in (cond b (Some g) (find (λ (f : SectionFound). eqb f.pass n) fs))) ≡ true
        → word_in (cond b (Some g) (find (λ (f : SectionFound). eqb f.pass n) (fs ++ f ∷ []))) ≡ word_in (cond b (Some g) (find (λ (f : SectionFound). eqb f.pass n) fs))
    by_test true rest some = refl
    by_test false rest some = rest some

module _ (g : Looks) (s : Shown) (pass word : ℕ) (low : pass < 32) (keeps : KeepsLooks g s) (new : has pass g.passed ≡ false) where
  -- a pass that may be passed now
  passed_is : lets_pass (first_found pass g.found) word ≡ true → looked_at g pass word ≡ record g { passed = g.passed ++ pass ∷ [] }
  passed_is lets = rw (new, lets) refl

  pub passed_kept : lets_pass (first_found pass g.found) word ≡ true → KeepsLooks (looked_at g pass word) (record s { passed = set s.passed pass true })
  passed_kept lets n small =
      subst (λ (l : Looks). (slice_get s.first n ≡ Some (first_found n l.found)) × (slice_get (set s.passed pass true) n ≡ Some (has n l.passed))) (sym (passed_is lets))
      ((keeps n small).0, by_pass)
    where
      by_pass : slice_get (set s.passed pass true) n ≡ Some (has n (g.passed ++ pass ∷ []))
      by_pass =
          elim (eqb_tells n pass) as (λ _. slice_get (set s.passed pass true) n ≡ Some (has n (g.passed ++ pass ∷ []))) [
            | inl same ↦
                let old : slice_get s.passed pass ≡ Some false = (keeps pass low).1 ∙ ap Some new in
                let now : slice_get (set s.passed pass true) n ≡ Some true = ap (slice_get (set s.passed pass true)) same.1 ∙ get_set s.passed pass false true old in
                let is : has n (g.passed ++ pass ∷ []) ≡ true = has_push n pass g.passed ∙ or_true (has n g.passed) (eqb pass n) (eq-eqb pass n (sym same.1)) in
                now ∙ ap Some (sym is)
            | inr other ↦
                let is : has n (g.passed ++ pass ∷ []) ≡ has n g.passed = has_push n pass g.passed ∙ ap (λ b. has n g.passed || b) (ne_eqb pass n (λ e. other.1 (sym e))) ∙ or_false (has n g.passed) in
                get_other s.passed pass n true other.1 ∙ (keeps n small).1 ∙ ap Some (sym is)
          ]

  -- a pass that may not: the word is noted
  noted_is : lets_pass (first_found pass g.found) word ≡ false → looked_at g pass word ≡ record g { found = g.found ++ record { pass = pass; word = word } ∷ [] }
  noted_is lets = rw (new, lets) refl

  -- where one was noted before, the first one stays
  pub noted_kept : lets_pass (first_found pass g.found) word ≡ false → is_some (first_found pass g.found) ≡ true → KeepsLooks (looked_at g pass word) s
  noted_kept lets some n small =
      subst (λ (l : Looks). (slice_get s.first n ≡ Some (first_found n l.found)) × (slice_get s.passed n ≡ Some (has n l.passed))) (sym (noted_is lets))
      ((keeps n small).0 ∙ ap Some (sym first_stays), (keeps n small).1)
    where
      first_stays : first_found n (g.found ++ record { pass = pass; word = word } ∷ []) ≡ first_found n g.found
      first_stays =
          elim (eqb_tells n pass) as (λ _. first_found n (g.found ++ record { pass = pass; word = word } ∷ []) ≡ first_found n g.found) [
            | inl same ↦ found_there n (record { pass = pass; word = word }) g.found (ap (λ k. is_some (first_found k g.found)) same.1 ∙ some)
            | inr other ↦ found_kept n (record { pass = pass; word = word }) g.found (λ e. other.1 (sym e))
          ]

  -- and one that was not
  pub first_kept : lets_pass (first_found pass g.found) word ≡ false → first_found pass g.found ≡ None → KeepsLooks (looked_at g pass word) (record s { first = set s.first pass (Some word) })
  first_kept lets none n small =
      subst (λ (l : Looks). (slice_get (set s.first pass (Some word)) n ≡ Some (first_found n l.found)) × (slice_get s.passed n ≡ Some (has n l.passed))) (sym (noted_is lets))
      (by_pass, (keeps n small).1)
    where
      by_pass : slice_get (set s.first pass (Some word)) n ≡ Some (first_found n (g.found ++ record { pass = pass; word = word } ∷ []))
      by_pass =
          elim (eqb_tells n pass) as (λ _. slice_get (set s.first pass (Some word)) n ≡ Some (first_found n (g.found ++ record { pass = pass; word = word } ∷ []))) [
            | inl same ↦
                let now : slice_get (set s.first pass (Some word)) n ≡ Some (Some word) = ap (slice_get (set s.first pass (Some word))) same.1 ∙ get_set s.first pass (first_found pass g.found) (Some word) (keeps pass low).0 in
                let gone : first_found n g.found ≡ None = ap (λ k. first_found k g.found) same.1 ∙ none in
                let there : first_found n (g.found ++ record { pass = pass; word = word } ∷ []) ≡ Some word = found_push n (record { pass = pass; word = word }) g.found gone ∙ ap (λ b. cond b (Some word) None) (eq-eqb pass n (sym same.1)) in
                now ∙ ap Some (sym there)
            | inr other ↦ get_other s.first pass n (Some word) other.1 ∙ (keeps n small).0 ∙ ap Some (sym (found_kept n (record { pass = pass; word = word }) g.found (λ e. other.1 (sym e))))
          ]

-- the same, of what is read at run time
module _ (s now : Shown) (is : s ≡ now) (pass word : ℕ) (low : pass < 32) (new : get_or s.passed pass false ≡ false) where
  module _ (g : Looks) (keeps : KeepsLooks g now) where
    here : KeepsLooks g s
    here = subst (KeepsLooks g) (sym is) keeps

    fresh : has pass g.passed ≡ false
    fresh = sym (get_read s.passed pass (has pass g.passed) false (here pass low).1) ∙ new

    first : first_found pass g.found ≡ get_or s.first pass None
    first = sym (get_read s.first pass (first_found pass g.found) None (here pass low).0)

    pub pass_now : lets_pass (get_or s.first pass None) word ≡ true → KeepsLooks (looked_at g pass word) (record s { passed = set s.passed pass true })
    pass_now lets = passed_kept g s pass word low here fresh (ap (λ o. lets_pass o word) first ∙ lets)

    pub note_stays : lets_pass (get_or s.first pass None) word ≡ false → is_some (get_or s.first pass None) ≡ true → KeepsLooks (looked_at g pass word) now
    note_stays lets some = subst (KeepsLooks (looked_at g pass word)) is (noted_kept g s pass word low here fresh (ap (λ o. lets_pass o word) first ∙ lets) (ap is_some first ∙ some))

    pub note_first : lets_pass (get_or s.first pass None) word ≡ false → is_some (get_or s.first pass None) ≡ false → KeepsLooks (looked_at g pass word) (record s { first = set s.first pass (Some word) })
    note_first lets none = first_kept g s pass word low here fresh (ap (λ o. lets_pass o word) first ∙ lets) (first ∙ is_none (get_or s.first pass None) none)
      where
        is_none : (o : Option ℕ) → is_some o ≡ false → o ≡ None
        is_none None none = refl
        is_none (Some x) none = cc
