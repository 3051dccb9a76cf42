-- The map's updates at the place of a key in the sorted list.
use Rattle.std.proofs.Common.{◌≡◌, ℕ, zero, suc, ◌+◌, ◌<◌, ◌≤◌, Bool, true, false, find, None, List, [], ◌∷◌, length, get_or, set, insert, remove, nat_lt, ◌==◌, refl, arith}
use Rattle.std.specs.List.{prefix_len, slice_get}
use Rattle.std.proofs.lemmas.Bool.Decides.{nat_tests}
use Rattle.key_map.specs.declared.pair.Pair.{Pair}
use Rattle.key_map.specs.Map.{pair, RisesFrom, map_has, map_put, map_get, map_remove, first_from, value_at}

-- whether a pair's key is below `key`
abbrev pub is_below : ℕ → Pair → Bool
is_below key p = nat_lt p.key key

-- the place of the key
abbrev pub place : ℕ → List Pair → ℕ
place key m = prefix_len (is_below key) m

pub RisesFrom-lower : (low low' : ℕ) (m : List Pair) → low ≤ low' → RisesFrom low' m → RisesFrom low m
RisesFrom-lower low low' [] le r = tt
RisesFrom-lower low low' (p ∷ ps) le r = (omega arith, r.1)

pub RisesFrom-map_put : (key val low : ℕ) (m : List Pair) → low ≤ key → RisesFrom low m → RisesFrom low (map_put key val m)
RisesFrom-map_put key val low [] le r = (le, tt)
RisesFrom-map_put key val low (p ∷ ps) le r = grind (arith, nat_tests, RisesFrom-map_put key val (p.key + 1) ps)

pub RisesFrom-map_remove : (key low : ℕ) (m : List Pair) → RisesFrom low m → RisesFrom low (map_remove key m)
RisesFrom-map_remove key low [] r = tt
RisesFrom-map_remove key low (p ∷ ps) r = grind (arith, nat_tests, RisesFrom-map_remove key (p.key + 1) ps, RisesFrom-lower)

absent-front : (key low : ℕ) (m : List Pair) → key < low → RisesFrom low m → map_has key m ≡ false
absent-front key low [] le r = refl
absent-front key low (p ∷ ps) le r = grind (arith, nat_tests, absent-front key (p.key + 1) ps)

insert-suc : (p x : Pair) (ps : List Pair) (n : ℕ) → insert (p ∷ ps) (1 + n) x ≡ p ∷ insert ps n x
insert-suc p x ps n = let e : 1 + n ≡ suc n = omega arith in rw e

remove-suc : (p : Pair) (ps : List Pair) (n : ℕ) → remove (p ∷ ps) (1 + n) ≡ p ∷ remove ps n
remove-suc p ps n = let e : 1 + n ≡ suc n = omega arith in rw e

pub map_put-absent : (key val low : ℕ) (m : List Pair) → RisesFrom low m → map_has key m ≡ false
    → map_put key val m ≡ insert m (place key m) (pair key val)
map_put-absent key val low [] r e = refl
map_put-absent key val low (p ∷ ps) r e = grind (arith, nat_tests, map_put-absent key val (p.key + 1) ps, insert-suc)

pub map_put-present : (key val low : ℕ) (m : List Pair) → RisesFrom low m → map_has key m ≡ true
    → map_put key val m ≡ set m (place key m) (pair key val)
map_put-present key val low [] r e = grind arith
map_put-present key val low (p ∷ ps) r e = grind (arith, nat_tests, map_put-present key val (p.key + 1) ps, absent-front key (p.key + 1) ps)

pub map_remove-present : (key low : ℕ) (m : List Pair) → RisesFrom low m → map_has key m ≡ true
    → map_remove key m ≡ remove m (place key m)
map_remove-present key low [] r e = grind arith
map_remove-present key low (p ∷ ps) r e = grind (arith, nat_tests, map_remove-present key (p.key + 1) ps, remove-suc, absent-front key (p.key + 1) ps)

pub map_remove-absent : (key : ℕ) (m : List Pair) → map_has key m ≡ false → map_remove key m ≡ m
map_remove-absent key [] e = refl
map_remove-absent key (p ∷ ps) e = grind (arith, nat_tests, map_remove-absent key ps)

-- the key is in the map exactly if it stands at its place
pub map_has-at_place : (key low : ℕ) (m : List Pair) (d : Pair) → RisesFrom low m → place key m < length m
    → map_has key m ≡ ((get_or m (place key m) d).key == key)
map_has-at_place key low [] d r l = absurd (omega arith)
map_has-at_place key low (p ∷ ps) d r l = grind (arith, nat_tests, map_has-at_place key (p.key + 1) ps d, absent-front key (p.key + 1) ps)

pub map_has-past : (key : ℕ) (m : List Pair) → length m ≤ place key m → map_has key m ≡ false
map_has-past key [] l = refl
map_has-past key (p ∷ ps) l = grind (arith, nat_tests, map_has-past key ps)

pub first_from-place : (key : ℕ) (m : List Pair) → first_from key m ≡ slice_get m (place key m)
first_from-place key [] = refl
first_from-place key (p ∷ ps) = grind (arith, nat_tests, first_from-place key ps)

pub length-map_put-le : (key val : ℕ) (m : List Pair) → length (map_put key val m) ≤ length m + 1
length-map_put-le key val [] = omega arith
length-map_put-le key val (p ∷ ps) = grind (arith, nat_tests, length-map_put-le key val ps)

pub length-map_remove-le : (key : ℕ) (m : List Pair) → length (map_remove key m) ≤ length m
length-map_remove-le key [] = omega arith
length-map_remove-le key (p ∷ ps) = grind (arith, nat_tests, length-map_remove-le key ps)

key-from_low : (low : ℕ) (m : List Pair) (j : ℕ) (d : Pair) → RisesFrom low m → j < length m → low ≤ (get_or m j d).key
key-from_low low [] j d r l = absurd (omega arith)
key-from_low low (p ∷ ps) zero d r l = r.0
key-from_low low (p ∷ ps) (suc j) d r l = let h : p.key + 1 ≤ (get_or ps j d).key = key-from_low (p.key + 1) ps j d r.1 (omega arith) in let k : low ≤ p.key = r.0 in omega arith

-- the keys of a map do not fall
pub keys_rise : (low : ℕ) (m : List Pair) → RisesFrom low m → (i j : ℕ) (d : Pair) → i ≤ j → j < length m → (get_or m i d).key ≤ (get_or m j d).key
keys_rise low [] r i j d le l = absurd (omega arith)
keys_rise low (p ∷ ps) r zero zero d le l = omega arith
keys_rise low (p ∷ ps) r zero (suc j) d le l = let h : p.key + 1 ≤ (get_or ps j d).key = key-from_low (p.key + 1) ps j d r.1 (omega arith) in omega arith
keys_rise low (p ∷ ps) r (suc i) zero d le l = absurd (omega arith)
keys_rise low (p ∷ ps) r (suc i) (suc j) d le l = keys_rise (p.key + 1) ps r.1 i j d (omega arith) (omega arith)

find-absent : (key low : ℕ) (m : List Pair) → key < low → RisesFrom low m → find (λ (p : Pair). p.key == key) m ≡ None
find-absent key low [] le r = refl
find-absent key low (p ∷ ps) le r = grind (arith, nat_tests, find-absent key (p.key + 1) ps)

-- a key's value is that of the first pair from it on, if that pair is the key's
pub map_get-first_from : (key low : ℕ) (m : List Pair) → RisesFrom low m → map_get key m ≡ value_at key (first_from key m)
map_get-first_from key low [] r = refl
map_get-first_from key low (p ∷ ps) r = grind (arith, nat_tests, map_get-first_from key (p.key + 1) ps, find-absent key (p.key + 1) ps)
