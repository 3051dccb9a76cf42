-- A tree's entries, changed and looked up as the pairs of a map.
use Rattle.std.proofs.Common.{◌≡◌, ℕ, ◌+◌, ◌<◌, ◌≤◌, ◌==◌, ◌&&◌, Bool, true, false, not, cond, List, [], ◌∷◌, Option, Some, None, nat_lt, nat_le, is_some, inl, inr, refl, sym, ap, ◌∙◌, arith}
use Rattle.std.specs.List.{AllByRecursion}
use Rattle.std.specs.List.Sorted.{IsStrictlySortedBy}
use Rattle.std.specs.Ordering.{nat_cmp, is_le}
use Rattle.std.specs.declared.cmp.Ordering.TheVariants.{Less}
use Rattle.std.specs.declared.ops.Bound.TheVariants.{Included, Unbounded}
use Rattle.std.specs.Map.{keys_of, lookup, remove_entry}
use Rattle.std.specs.BTreeMap.{insert_entry, is_at}
use Rattle.std.specs.BTreeMap.Range.{entries_between}
use Rattle.std.proofs.lemmas.Bool.{cases_Bool}
use Rattle.std.proofs.lemmas.Bool.Decides.{nat_tests}
use Rattle.std.proofs.lemmas.Cmp.{ranked}
use Rattle.key_map.specs.declared.pair.Pair.{Pair}
use Rattle.key_map.specs.Map.{pair, map_has, map_get, map_put, map_remove, first_from, RisesFrom, IsMap}
use Rattle.replay_check.specs.TreePairs.{pairs_of}

-- ---- one entry

abbrev of_entry : ℕ × ℕ → Pair
of_entry e = pair e.0 e.1

-- its key is the one that is looked for
tied : (k key : ℕ) → is_at (nat_cmp k) key ≡ (key == k)
tied k key =
    elim (cases_Bool (nat_lt k key)) [
      | inl less ↦ let other : (key == k) ≡ false = grind (arith, nat_tests) in rw (less, other) refl
      | inr most ↦
          elim (cases_Bool (k == key)) [
            | inl same ↦ let tie : (key == k) ≡ true = grind (arith, nat_tests) in rw (most, same, tie) refl
            | inr other ↦ let more : (key == k) ≡ false = grind (arith, nat_tests) in rw (most, other, more) refl
          ]
    ]

-- its key is that one or a greater one
from : (k key : ℕ) → is_le (nat_cmp k key) ≡ nat_le k key
from k key =
    elim (cases_Bool (nat_lt k key)) [
      | inl less ↦ let upto : nat_le k key ≡ true = grind (arith, nat_tests) in rw (less, upto) refl
      | inr most ↦
          elim (cases_Bool (k == key)) [
            | inl same ↦ let upto : nat_le k key ≡ true = grind (arith, nat_tests) in rw (most, same, upto) refl
            | inr other ↦ let past : nat_le k key ≡ false = grind (arith, nat_tests) in rw (most, other, past) refl
          ]
    ]

-- ---- changes

pub put_is : (es : List (ℕ × ℕ)) (k v : ℕ) → pairs_of (insert_entry nat_cmp es k v) ≡ map_put k v (pairs_of es)
put_is [] k v = refl
put_is (e ∷ es) k v =
    elim (cases_Bool (nat_lt k e.0)) [
      | inl less ↦
          let above : nat_lt e.0 k ≡ false = grind (arith, nat_tests) in
          let other : (e.0 == k) ≡ false = grind (arith, nat_tests) in
          rw (less, above, other) refl
      | inr most ↦
          elim (cases_Bool (k == e.0)) [
            | inl same ↦
                let key : e.0 ≡ k = grind (arith, nat_tests) in
                let above : nat_lt e.0 k ≡ false = grind (arith, nat_tests) in
                let tie : (e.0 == k) ≡ true = grind (arith, nat_tests) in
                rw (most, same, above, tie) (ap (λ (n : ℕ). pair n v ∷ pairs_of es) key)
            | inr other ↦
                let below : nat_lt e.0 k ≡ true = grind (arith, nat_tests) in
                rw (most, other, below) (ap (λ (ps : List Pair). of_entry e ∷ ps) (put_is es k v))
          ]
    ]

without : (b : Bool) (e : ℕ × ℕ) (es others : List (ℕ × ℕ)) (m : List Pair) → pairs_of others ≡ m → pairs_of (cond b es (e ∷ others)) ≡ cond b (pairs_of es) (of_entry e ∷ m)
without true e es others m same = refl
without false e es others m same = ap (λ (ps : List Pair). of_entry e ∷ ps) same

pub remove_is : (es : List (ℕ × ℕ)) (k : ℕ) → pairs_of (remove_entry (is_at (nat_cmp k)) es) ≡ map_remove k (pairs_of es)
remove_is [] k = refl
remove_is (e ∷ es) k =
    ap (λ (b : Bool). pairs_of (cond b es (e ∷ remove_entry (is_at (nat_cmp k)) es))) (tied k e.0)
    ∙ without (e.0 == k) e es (remove_entry (is_at (nat_cmp k)) es) (map_remove k (pairs_of es)) (remove_is es k)

-- ---- looks

got : (k : ℕ) (e : ℕ × ℕ) (found : Option ℕ) (m : List Pair) (b : Bool) → (e.0 == k) ≡ b → found ≡ map_get k m → cond b (Some e.1) found ≡ map_get k (of_entry e ∷ m)
got k e found m true is same = rw is refl
got k e found m false is same = rw is same

pub get_is : (es : List (ℕ × ℕ)) (k : ℕ) → lookup (is_at (nat_cmp k)) es ≡ map_get k (pairs_of es)
get_is [] k = refl
get_is (e ∷ es) k =
    ap (λ (b : Bool). cond b (Some e.1) (lookup (is_at (nat_cmp k)) es)) (tied k e.0)
    ∙ got k e (lookup (is_at (nat_cmp k)) es) (pairs_of es) (e.0 == k) refl (get_is es k)

had : (k : ℕ) (e : ℕ × ℕ) (found : Option ℕ) (m : List Pair) (b : Bool) → (e.0 == k) ≡ b → is_some found ≡ map_has k m → is_some (cond b (Some e.1) found) ≡ map_has k (of_entry e ∷ m)
had k e found m true is same = rw is refl
had k e found m false is same = rw is same

pub has_is : (es : List (ℕ × ℕ)) (k : ℕ) → is_some (lookup (is_at (nat_cmp k)) es) ≡ map_has k (pairs_of es)
has_is [] k = refl
has_is (e ∷ es) k =
    ap (λ (b : Bool). is_some (cond b (Some e.1) (lookup (is_at (nat_cmp k)) es))) (tied k e.0)
    ∙ had k e (lookup (is_at (nat_cmp k)) es) (pairs_of es) (e.0 == k) refl (has_is es k)

-- the entries from a key on
abbrev entries_from : ℕ → List (ℕ × ℕ) → List (ℕ × ℕ)
entries_from k es = entries_between nat_cmp (Included k) Unbounded es

-- whether the first of some entries is from the key on
abbrev kept : Bool → ℕ × ℕ → List (ℕ × ℕ) → List (ℕ × ℕ)
kept b e rest = cond (b && not false) (e ∷ rest) rest

begins : (k : ℕ) (e x : ℕ × ℕ) (rest more : List (ℕ × ℕ)) (m : List Pair) (b : Bool) → nat_le k e.0 ≡ b → (rest ≡ x ∷ more → first_from k m ≡ Some (of_entry x))
    → kept b e rest ≡ x ∷ more → first_from k (of_entry e ∷ m) ≡ Some (of_entry x)
begins k e x rest more m true is later found = let first : e ≡ x = cc in rw is (ap (λ (y : ℕ × ℕ). Some (of_entry y)) first)
begins k e x rest more m false is later found = rw is (later found)

ends : (k : ℕ) (e : ℕ × ℕ) (rest : List (ℕ × ℕ)) (m : List Pair) (b : Bool) → nat_le k e.0 ≡ b → (rest ≡ [] → first_from k m ≡ None) → kept b e rest ≡ [] → first_from k (of_entry e ∷ m) ≡ None
ends k e rest m true is later found = cc
ends k e rest m false is later found = rw is (later found)

-- they begin with the first pair from it on
pub first_some : (es : List (ℕ × ℕ)) (k : ℕ) (x : ℕ × ℕ) (more : List (ℕ × ℕ)) → entries_from k es ≡ x ∷ more → first_from k (pairs_of es) ≡ Some (of_entry x)
first_some [] k x more is = cc
first_some (e ∷ es) k x more is =
    begins k e x (entries_from k es) more (pairs_of es) (nat_le k e.0) refl (λ h. first_some es k x more h)
    (sym (ap (λ (b : Bool). kept b e (entries_from k es)) (from k e.0)) ∙ is)

pub first_none : (es : List (ℕ × ℕ)) (k : ℕ) → entries_from k es ≡ [] → first_from k (pairs_of es) ≡ None
first_none [] k is = refl
first_none (e ∷ es) k is =
    ends k e (entries_from k es) (pairs_of es) (nat_le k e.0) refl (λ h. first_none es k h)
    (sym (ap (λ (b : Bool). kept b e (entries_from k es)) (from k e.0)) ∙ is)

-- ---- keys rise

above : (x : ℕ) (ys : List ℕ) → AllByRecursion (λ (y : ℕ). nat_cmp x y ≡ Less) ys → AllByRecursion (λ (y : ℕ). x + 1 ≤ y) ys
above x [] all = tt
above x (y ∷ ys) all = let less : x < y = ranked x y Less (sym all.0) in (omega arith, above x ys all.1)

rises_from : (es : List (ℕ × ℕ)) (low : ℕ) → IsStrictlySortedBy nat_cmp (keys_of es) → AllByRecursion (λ (key : ℕ). low ≤ key) (keys_of es) → RisesFrom low (pairs_of es)
unfolding IsStrictlySortedBy
rises_from [] low sorted all = tt
rises_from (e ∷ es) low sorted all = (all.0, rises_from es (e.0 + 1) sorted.1 (above e.0 (keys_of es) sorted.0))

all_from_0 : (ys : List ℕ) → AllByRecursion (λ (y : ℕ). 0 ≤ y) ys
all_from_0 [] = tt
all_from_0 (y ∷ ys) = (omega arith, all_from_0 ys)

pub rises : (es : List (ℕ × ℕ)) → IsStrictlySortedBy nat_cmp (keys_of es) → IsMap (pairs_of es)
rises es sorted = rises_from es 0 sorted (all_from_0 (keys_of es))
