-- Helper: the headline does not rest on this file.
-- A set of keys and a map.
use Rattle.std.specs.Prelude.{◌≡◌, ℕ, List, length, nat_eq}
use Rattle.std.specs.HashSet.{HashSet, contains, hash_set_len}
use Rattle.key_map.specs.declared.pair.Pair.{Pair}
use Rattle.key_map.specs.Map.{map_has}

-- the set has the keys of the map, and no others
pub record HasKeysOf {S : Type 0} (m : List Pair) (keys : HashSet ℕ S) : Type 0 where
  pub has : (key : ℕ) → contains nat_eq keys key ≡ map_has key m
  pub count : hash_set_len keys ≡ length m
