-- A set that follows a map from one update to the next.
use Rattle.std.proofs.Common.{◌≡◌, ℕ, ◌+◌, Bool, true, false, cond, not, List, [], ◌∷◌, length, nat_eq, ◌==◌, refl, arith, if◌then◌else◌}
use Rattle.std.proofs.lemmas.Bool.Decides.{nat_tests}
use Rattle.std.specs.HashSet.{HashSet, contains, hash_set_len, Updates, UpdatesBy}
use Rattle.key_map.specs.declared.pair.Pair.{Pair}
use Rattle.key_map.specs.Map.{IsMap, map_has, map_put, map_remove}
use Rattle.sample_laws.proofs.MapCounts.{has_put, has_remove, length_put, length_remove}
use Rattle.client_threads.specs.KeySets.{HasKeysOf}

module _ {S : Type 0} (m : List Pair) (map : IsMap m) (key : ℕ) (s n : HashSet ℕ S) (has : HasKeysOf m s) where
  pub put : (val : ℕ) (added : Bool) → added ≡ not (contains nat_eq s key) → Updates nat_eq s n key true
      → hash_set_len n ≡ hash_set_len s + (if added then 1 else 0) → HasKeysOf (map_put key val m) n
  put val added is updates len =
      let was = has.has key in
      let count = has.count in
      let longer = length_put key val 0 m map in
      record {
        has = λ q. let here = has.has q in let now = updates.0 q in let then_ = has_put q key val m in grind (arith, nat_tests);
        count = grind (arith, nat_tests);
      }

  pub remove : (removed : Bool) → removed ≡ contains nat_eq s key → UpdatesBy nat_eq (nat_eq key) s n false
      → hash_set_len n + (if removed then 1 else 0) ≡ hash_set_len s → HasKeysOf (map_remove key m) n
  remove removed is updates len =
      let was = has.has key in
      let count = has.count in
      let shorter = length_remove key m in
      record {
        has = λ q. let here = has.has q in let now = updates.0 q in let then_ = has_remove q key 0 m map in grind (arith, nat_tests);
        count = grind (arith, nat_tests);
      }

pub none : {S : Type 0} (s : HashSet ℕ S) → s.keys ≡ [] → HasKeysOf [] s
none s empty = record { has = λ q. rw empty refl; count = rw empty refl }
