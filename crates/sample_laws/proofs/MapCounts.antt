-- The length of a map, and what is in it, after a put and after a removal.
use Rattle.std.proofs.Common.{◌≡◌, ℕ, ◌+◌, ◌<◌, false, cond, not, ◌&&◌, ◌||◌, List, [], ◌∷◌, length, ◌==◌, refl, arith}
use Rattle.std.proofs.lemmas.Bool.Decides.{nat_tests}
use Rattle.key_map.specs.declared.pair.Pair.{Pair}
use Rattle.key_map.specs.Map.{RisesFrom, map_has, map_put, map_remove}

none_below : (key low : ℕ) (m : List Pair) → key < low → RisesFrom low m → map_has key m ≡ false
none_below key low [] le r = refl
none_below key low (p ∷ ps) le r = grind (arith, nat_tests, none_below key (p.key + 1) ps)

pub has_put : (other key val : ℕ) (m : List Pair) → map_has other (map_put key val m) ≡ ((key == other) || map_has other m)
has_put other key val [] = refl
has_put other key val (p ∷ ps) = let rest = has_put other key val ps in grind (arith, nat_tests)

pub has_remove : (other key low : ℕ) (m : List Pair) → RisesFrom low m → map_has other (map_remove key m) ≡ (not (key == other) && map_has other m)
has_remove other key low [] r = grind (arith, nat_tests)
has_remove other key low (p ∷ ps) r =
    let rest = has_remove other key (p.key + 1) ps r.1 in grind (arith, nat_tests, none_below other (p.key + 1) ps)

pub length_put : (key val low : ℕ) (m : List Pair) → RisesFrom low m → length (map_put key val m) + cond (map_has key m) 1 0 ≡ length m + 1
length_put key val low [] r = refl
length_put key val low (p ∷ ps) r =
    let rest = length_put key val (p.key + 1) ps r.1 in grind (arith, nat_tests, none_below key (p.key + 1) ps)

pub length_remove : (key : ℕ) (m : List Pair) → length (map_remove key m) + cond (map_has key m) 1 0 ≡ length m
length_remove key [] = refl
length_remove key (p ∷ ps) = let rest = length_remove key ps in grind (arith, nat_tests)
