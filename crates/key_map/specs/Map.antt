-- Helper: the headline does not rest on this file.
-- What proofs say of a map: that its keys rise, and its first pair from a key on.
use Rattle.std.specs.Prelude.{ℕ, ◌+◌, ◌≤◌, List, [], ◌∷◌, nat_le, ◌==◌, if◌then◌else◌, Option, Some, None, find}
use Rattle.key_map.specs.declared.pair.Pair.{Pair}
pub use Rattle.key_map.specs.KeyMap.{pair, map_has, map_get, map_put, map_remove}

-- the keys rise strictly, and each is at least `low`
abbrev pub RisesFrom : ℕ → List Pair → Type 0
RisesFrom low [] = Unit {0}
RisesFrom low (p ∷ ps) = (low ≤ p.key) × RisesFrom (p.key + 1) ps

-- a map: the keys rise strictly
abbrev pub IsMap : List Pair → Type 0
IsMap m = RisesFrom 0 m

-- the first pair whose key is at least `key`
abbrev pub first_from : ℕ → List Pair → Option Pair
first_from key m = find (λ (p : Pair). nat_le key p.key) m

-- the value of a pair, where the pair is the key's
abbrev pub value_at : ℕ → Option Pair → Option ℕ
value_at key None = None
value_at key (Some p) = if p.key == key then Some p.val else None
