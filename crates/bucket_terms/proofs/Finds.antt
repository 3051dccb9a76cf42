-- A key has a value in a map exactly where it is there.
use Rattle.std.proofs.Common.{◌≡◌, ℕ, true, false, List, [], ◌∷◌, Option, Some, None, inl, inr, refl, sym, ◌∙◌, arith}
use Rattle.std.proofs.lemmas.Bool.{cases_Bool, false≢true}
use Rattle.std.proofs.lemmas.Bool.Decides.{nat_tests}
use Rattle.key_map.specs.declared.pair.Pair.{Pair}
use Rattle.key_map.specs.Map.{map_has, map_get}

pub map_get-absent : (key : ℕ) (m : List Pair) → map_has key m ≡ false → map_get key m ≡ None
map_get-absent key [] absent = refl
map_get-absent key (p ∷ m) absent = grind (arith, nat_tests, map_get-absent key m)

pub map_has-none : (key : ℕ) (m : List Pair) → map_get key m ≡ None → map_has key m ≡ false
map_has-none key [] none = refl
map_has-none key (p ∷ m) none = grind (arith, nat_tests, map_has-none key m)

pub map_get-present : (key : ℕ) (m : List Pair) → map_has key m ≡ true → (val : ℕ) × (map_get key m ≡ Some val)
map_get-present key m present = by_value (map_get key m) refl
  where
    by_value : (found : Option ℕ) → map_get key m ≡ found → (val : ℕ) × (map_get key m ≡ Some val)
    by_value None none = absurd (false≢true (sym (map_has-none key m none) ∙ present))
    by_value (Some val) some = (val, some)

pub map_has-some : (key : ℕ) (m : List Pair) (val : ℕ) → map_get key m ≡ Some val → map_has key m ≡ true
map_has-some key m val some =
    elim (cases_Bool (map_has key m)) [
      | inl present ↦ present
      | inr absent ↦ let none = map_get-absent key m absent in cc
    ]
