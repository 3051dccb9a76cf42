-- Among rising names, where those that pass a test stand.
use Rattle.std.proofs.Common.{◌≡◌, ℕ, ◌+◌, ◌<◌, ◌≤◌, ◌⊎◌, Bool, true, false, List, [], ◌∷◌, length, get_or, count_by, zero, suc, nat_lt, refl, sym, ap, subst, cond, zero-add, arith, inl, inr, ◌∙◌}
use Rattle.std.specs.declared.cmp.Ordering.{Ordering}
use Rattle.std.specs.declared.cmp.Ordering.TheVariants.{Less, Equal, Greater}
use Rattle.std.specs.Ordering.{is_lt, is_le}
use Rattle.std.specs.List.Sorted.{IsPartitionedBy, IsPartitionPoint}
use Rattle.std.specs.Cmp.Lexicographic.{nat_list_cmp_total}
use Rattle.std.proofs.lemmas.Bool.{cases_lt, or_cases, or_left, or_right, lt-ltb, le-ltb, ltb-true, ltb-false, false≢true, cases_Bool, false_from_ne_true}
use Rattle.std.proofs.lemmas.List.Sums.{sum_by-cons}
use Rattle.std.proofs.lemmas.Bool.Decides.{nat_tests}
use Rattle.std.proofs.lemmas.Map.Keys.{Less-from_sorted}
use Rattle.key_names.specs.Names.{byte_order, Rises, name_at, begins_with}
use Rattle.key_names.specs.Ranks.{is_before, is_upto, is_upto_prefix, StandFirst, StandTogether}
use Rattle.key_names.proofs.ByteOrder.{same_from_tied}

-- a test that each name below a passing one passes too
pub record IsDownward (test : List ℕ → Bool) : Type 0 where
  pub below : (a b : List ℕ) → byte_order a b ≡ Less → test b ≡ true → test a ≡ true

less_from_before : (o : Ordering) → is_lt o ≡ true → o ≡ Less
less_from_before Less h = refl
less_from_before Equal h = cc
less_from_before Greater h = cc

less_or_tied : (o : Ordering) → is_le o ≡ true → (o ≡ Less) ⊎ (o ≡ Equal)
less_or_tied Less h = inl refl
less_or_tied Equal h = inr refl
less_or_tied Greater h = cc

pub before_downward : (bytes : List ℕ) → IsDownward (λ name. is_before name bytes)
before_downward bytes = record {
  below = λ a b less before. ap is_lt (nat_list_cmp_total.trans a b bytes less (less_from_before _ before));
}

pub upto_downward : (bytes : List ℕ) → IsDownward (λ name. is_upto name bytes)
upto_downward bytes = record {
  below = λ a b less upto.
      elim (less_or_tied _ upto) [
        | inl before ↦ ap is_le (nat_list_cmp_total.trans a b bytes less before)
        | inr tied ↦ ap is_le (subst (λ l. byte_order a l ≡ Less) (same_from_tied b bytes tied) less)
      ];
}

under_prefix : (a b prefix : List ℕ) → byte_order a b ≡ Less → begins_with b prefix ≡ true → is_upto_prefix a prefix ≡ true
under_prefix a b [] less begins = or_right _ _ refl
under_prefix [] b (p ∷ prefix) less begins = refl
under_prefix (x ∷ a) [] (p ∷ prefix) less begins = cc
under_prefix (x ∷ a) (y ∷ b) (p ∷ prefix) less begins = grind (arith, nat_tests, under_prefix a b prefix)

pub prefix_downward : (prefix : List ℕ) → IsDownward (λ name. is_upto_prefix name prefix)
prefix_downward prefix = record {
  below = λ a b less upto.
      elim (or_cases _ _ upto) [
        | inl before ↦ or_left _ _ ((before_downward prefix).below a b less before)
        | inr begins ↦ under_prefix a b prefix less begins
      ];
}

-- a name that begins with the prefix is not below it
begins_not_before : (name prefix : List ℕ) → begins_with name prefix ≡ true → is_before name prefix ≡ false
begins_not_before [] [] begins = refl
begins_not_before (x ∷ name) [] begins = refl
begins_not_before [] (p ∷ prefix) begins = cc
begins_not_before (x ∷ name) (p ∷ prefix) begins = grind (arith, nat_tests, begins_not_before name prefix)

pub partitioned : (test : List ℕ → Bool) (names : List (List ℕ)) → IsDownward test → Rises names → IsPartitionedBy test names
partitioned test names downward rising i j d upto below passes =
    elim (cases_lt i j) [
      | inl before ↦ downward.below _ _ (Less-from_sorted byte_order names i j d rising before below) passes
      | inr same ↦ let e : j ≡ i = omega arith in subst (λ k. test (get_or names k d) ≡ true) e passes
    ]

count_passing : {X : Type 0} (p : X → Bool) (x : X) (xs : List X) → p x ≡ true → count_by p (x ∷ xs) ≡ 1 + count_by p xs
count_passing p x xs passes = sum_by-cons (λ y. cond (p y) 1 0) x xs ∙ ap (λ (b : Bool). cond b 1 0 + count_by p xs) passes

count_failing : {X : Type 0} (p : X → Bool) (x : X) (xs : List X) → p x ≡ false → count_by p (x ∷ xs) ≡ count_by p xs
count_failing p x xs fails =
    sum_by-cons (λ y. cond (p y) 1 0) x xs ∙ (ap (λ (b : Bool). cond b 1 0 + count_by p xs) fails ∙ zero-add (count_by p xs))

none_pass : {X : Type 0} (p : X → Bool) (xs : List X) → ((k : ℕ) (d : X) → 0 ≤ k → k < length xs → p (get_or xs k d) ≡ false) → count_by p xs ≡ 0
none_pass p [] none = refl
none_pass p (x ∷ xs) none =
    let here : p x ≡ false = none 0 x (omega arith) (omega arith) in
    let rest : count_by p xs ≡ 0 = none_pass p xs (λ k d low below. none (suc k) d (omega arith) (omega arith)) in
    count_failing p x xs here ∙ rest

-- as many pass as the partition point says
pub count_from_point : {X : Type 0} (p : X → Bool) (xs : List X) (i : ℕ) → i ≤ length xs → IsPartitionPoint (λ y. p y ≡ true) (λ y. p y ≡ false) xs i → i ≡ count_by p xs
count_from_point p [] i within point = omega arith
count_from_point p (x ∷ xs) zero within point = sym (none_pass p (x ∷ xs) point.1)
count_from_point p (x ∷ xs) (suc i) within point =
    let here : p x ≡ true = point.0 0 x (omega arith) (omega arith) in
    let rest : i ≡ count_by p xs =
    count_from_point p xs i (omega arith)
    ((λ k d low before. point.0 (suc k) d (omega arith) (omega arith)), (λ k d low below. point.1 (suc k) d (omega arith) (omega arith)))
    in
    let counted = count_passing p x xs here in
    omega (arith, counted, rest)

one_less : (m n : ℕ) → nat_lt (suc m) (1 + n) ≡ nat_lt m n
one_less m n = grind (arith, nat_tests)

-- where the first element passes, each later place depends on the others
after_passing : {X : Type 0} (p : X → Bool) (x : X) (xs : List X) → p x ≡ true → ((k : ℕ) (d : X) → k < length xs → nat_lt k (count_by p xs) ≡ p (get_or xs k d)) → (k : ℕ) (d : X) → k < length (x ∷ xs) → nat_lt k (count_by p (x ∷ xs)) ≡ p (get_or (x ∷ xs) k d)
after_passing p x xs passes others zero d below =
    lt-ltb 0 _ (let counted = count_passing p x xs passes in omega (arith, counted)) ∙ sym passes
after_passing p x xs passes others (suc k) d below =
    ap (nat_lt (suc k)) (count_passing p x xs passes) ∙ (one_less k (count_by p xs) ∙ others k d (omega arith))

-- where it fails, no later one passes
after_failing : {X : Type 0} (p : X → Bool) (x : X) (xs : List X) → p x ≡ false → IsPartitionedBy p (x ∷ xs) → (k : ℕ) (d : X) → k < length (x ∷ xs) → nat_lt k (count_by p (x ∷ xs)) ≡ p (get_or (x ∷ xs) k d)
after_failing {X} p x xs fails parted k d below =
    let all_fail : (j : ℕ) (e : X) → 0 ≤ j → j < length (x ∷ xs) → p (get_or (x ∷ xs) j e) ≡ false =
    λ j e low within. false_from_ne_true _ (λ passes. false≢true (sym fails ∙ parted 0 j e low within passes))
    in
    ap (nat_lt k) (none_pass p (x ∷ xs) all_fail) ∙ (le-ltb k 0 (omega arith) ∙ sym (all_fail k d (omega arith) below))

-- a place is among the first that pass exactly where the element there passes
place_tells : {X : Type 0} (p : X → Bool) (xs : List X) → IsPartitionedBy p xs → (k : ℕ) (d : X) → k < length xs → nat_lt k (count_by p xs) ≡ p (get_or xs k d)
place_tells p [] parted k d below = absurd (omega arith)
place_tells p (x ∷ xs) parted k d below =
    elim (cases_Bool (p x)) [
      | inl passes ↦ after_passing p x xs passes (place_tells p xs (λ i j e upto within. parted (suc i) (suc j) e (omega arith) (omega arith))) k d below
      | inr fails ↦ after_failing p x xs fails parted k d below
    ]

-- the names that pass are as many as the count, and stand first
pub stand_first : (test : List ℕ → Bool) (names : List (List ℕ)) → IsDownward test → Rises names → StandFirst test names (count_by test names)
stand_first test names downward rising rank below = place_tells test names (partitioned test names downward rising) rank [] below

pub stand_together : (names : List (List ℕ)) (prefix : List ℕ) (start end : ℕ) → StandFirst (λ name. is_before name prefix) names start → StandFirst (λ name. is_upto_prefix name prefix) names end → StandTogether names prefix start end
stand_together names prefix start end before upto rank below =
    let name = name_at names rank in
    let at_start : nat_lt rank start ≡ is_before name prefix = before rank below in
    let at_end : nat_lt rank end ≡ is_upto_prefix name prefix = upto rank below in (
      λ begins. (
        ltb-false rank start (at_start ∙ begins_not_before name prefix begins),
        ltb-true rank end (at_end ∙ or_right _ _ begins),
      ),
      λ within.
          let not_before : is_before name prefix ≡ false = sym at_start ∙ le-ltb rank start within.0 in
          elim (or_cases _ _ (sym at_end ∙ lt-ltb rank end within.1)) [
            | inl is ↦ absurd (false≢true (sym not_before ∙ is))
            | inr begins ↦ begins
          ],
    )
