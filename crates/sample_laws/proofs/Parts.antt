-- The pairs of some keys, in maps that change: a change of another key leaves them as they are, and a change of one of
-- these keys changes them as it changes the whole map.
use Rattle.std.proofs.Common.{◌≡◌, ℕ, ◌+◌, ◌<◌, ◌≤◌, Bool, true, false, cond, List, [], ◌∷◌, take, fold, filter, refl, sym, ap, ◌∙◌, arith, inl, inr, All}
use Rattle.std.proofs.lemmas.Bool.{cases_Bool}
use Rattle.std.proofs.lemmas.Bool.Decides.{nat_tests}
use Rattle.std.proofs.lemmas.List.Elements.{All-head, All-tail}
use Rattle.key_map.specs.declared.pair.Pair.{Pair}
use Rattle.key_map.specs.declared.update.Update.{Update}
use Rattle.key_map.specs.declared.update.Change.{Change}
use Rattle.key_map.specs.declared.update.Change.TheVariants.{Put, Remove}
use Rattle.key_map.specs.Map.{pair, IsMap, RisesFrom, map_has, map_get, map_put, map_remove}
use Rattle.key_map.specs.History.{changed, updated, after}
use Rattle.key_map.proofs.MapLaws.{RisesFrom-lower, RisesFrom-map_put, RisesFrom-map_remove}

-- the pairs whose keys pass
abbrev pub part : (ℕ → Bool) → List Pair → List Pair
part own m = filter (λ (p : Pair). own p.key) m

RisesFrom-part : (own : ℕ → Bool) (low : ℕ) (m : List Pair) → RisesFrom low m → RisesFrom low (part own m)
RisesFrom-part own low [] r = tt
RisesFrom-part own low (p ∷ ps) r =
    by_test (own p.key) (RisesFrom-part own (p.key + 1) ps r.1)
  where
    by_test : (b : Bool) → RisesFrom (p.key + 1) (part own ps) → RisesFrom low (cond b (p ∷ part own ps) (part own ps))
    by_test true rest = (r.0, rest)
    by_test false rest = let first : low ≤ p.key = r.0 in RisesFrom-lower low (p.key + 1) (part own ps) (omega arith) rest

-- a key below all others is put first
put_front : (key val low : ℕ) (m : List Pair) → key < low → RisesFrom low m → map_put key val m ≡ pair key val ∷ m
put_front key val low [] le r = refl
put_front key val low (p ∷ ps) le r = grind (arith, nat_tests)

part-put_own : (own : ℕ → Bool) (key val low : ℕ) (m : List Pair) → RisesFrom low m → own key ≡ true
    → part own (map_put key val m) ≡ map_put key val (part own m)
part-put_own own key val low [] r mine = rw mine refl
part-put_own own key val low (p ∷ ps) r mine =
    let rest = part-put_own own key val (p.key + 1) ps r.1 mine in
    let kept = RisesFrom-part own (p.key + 1) ps r.1 in
    grind (arith, nat_tests, put_front key val (p.key + 1) (part own ps))

part-put_other : (own : ℕ → Bool) (key val : ℕ) (m : List Pair) → own key ≡ false → part own (map_put key val m) ≡ part own m
part-put_other own key val [] other = rw other refl
part-put_other own key val (p ∷ ps) other =
    let rest = part-put_other own key val ps other in grind (arith, nat_tests)

part-remove_own : (own : ℕ → Bool) (key : ℕ) (m : List Pair) → own key ≡ true → part own (map_remove key m) ≡ map_remove key (part own m)
part-remove_own own key [] mine = refl
part-remove_own own key (p ∷ ps) mine =
    let rest = part-remove_own own key ps mine in grind (arith, nat_tests)

part-remove_other : (own : ℕ → Bool) (key : ℕ) (m : List Pair) → own key ≡ false → part own (map_remove key m) ≡ part own m
part-remove_other own key [] other = refl
part-remove_other own key (p ∷ ps) other =
    let rest = part-remove_other own key ps other in grind (arith, nat_tests)

part-changed_own : (own : ℕ → Bool) (key : ℕ) (c : Change) (m : List Pair) → IsMap m → own key ≡ true
    → part own (changed key c m) ≡ changed key c (part own m)
part-changed_own own key (Put val) m h mine = part-put_own own key val 0 m h mine
part-changed_own own key Remove m h mine = part-remove_own own key m mine

part-changed_other : (own : ℕ → Bool) (key : ℕ) (c : Change) (m : List Pair) → own key ≡ false → part own (changed key c m) ≡ part own m
part-changed_other own key (Put val) m other = part-put_other own key val m other
part-changed_other own key Remove m other = part-remove_other own key m other

IsMap-changed : (key : ℕ) (c : Change) (m : List Pair) → IsMap m → IsMap (changed key c m)
IsMap-changed key (Put val) m h = RisesFrom-map_put key val 0 m (omega arith) h
IsMap-changed key Remove m h = RisesFrom-map_remove key 0 m h

-- the map after the updates
abbrev pub made_by : List Update → List Pair
made_by us = fold updated [] us

part-fold : (own : ℕ → Bool) (us : List Update) (m : List Pair) → IsMap m
    → part own (fold updated m us) ≡ fold updated (part own m) (filter (λ (u : Update). own u.key) us)
part-fold own [] m h = refl
part-fold own (u ∷ us) m h =
    let rest = part-fold own us (updated m u) (IsMap-changed u.key u.change m h) in
    let others = filter (λ (v : Update). own v.key) us in
    elim (cases_Bool (own u.key)) [
      | inl mine ↦ rest ∙ ap (λ (n : List Pair). fold updated n others) (part-changed_own own u.key u.change m h mine)
          ∙ sym (ap (λ (b : Bool). fold updated (part own m) (cond b (u ∷ others) others)) mine)
      | inr other ↦ rest ∙ ap (λ (n : List Pair). fold updated n others) (part-changed_other own u.key u.change m other)
          ∙ sym (ap (λ (b : Bool). fold updated (part own m) (cond b (u ∷ others) others)) other)
    ]

-- updates on other keys commute: the pairs of these keys are those of the updates of these keys alone
pub part-after : (own : ℕ → Bool) (us : List Update) (t : ℕ) → part own (after us t) ≡ made_by (filter (λ (u : Update). own u.key) (take t us))
unfolding after
part-after own us t = part-fold own (take t us) [] tt

-- ---- what follows from the pairs of some keys

pub map_has-part : (own : ℕ → Bool) (key : ℕ) (m : List Pair) → own key ≡ true → map_has key m ≡ map_has key (part own m)
map_has-part own key [] mine = refl
map_has-part own key (p ∷ ps) mine = let rest = map_has-part own key ps mine in grind (arith, nat_tests)

pub map_get-part : (own : ℕ → Bool) (key : ℕ) (m : List Pair) → own key ≡ true → map_get key m ≡ map_get key (part own m)
map_get-part own key [] mine = refl
map_get-part own key (p ∷ ps) mine = let rest = map_get-part own key ps mine in grind (arith, nat_tests)

-- a filter by one test, applied to what passes the same test and another
pub filter-within : {X : Type 0} (f g : X → Bool) (xs : List X) → filter f (filter g (filter f xs)) ≡ filter f (filter g xs)
filter-within f g [] = refl
filter-within f g (x ∷ xs) = let rest = filter-within f g xs in grind arith

pub filter-same : {X : Type 0} (f g : X → Bool) (xs : List X) → All (λ x. f x ≡ g x) xs → filter f xs ≡ filter g xs
filter-same f g [] all = refl
filter-same f g (x ∷ xs) all =
    let rest = filter-same f g xs (All-tail (λ y. f y ≡ g y) x xs all) in
    let here = All-head (λ y. f y ≡ g y) x xs all in
    grind arith
