-- Helper: the headline does not rest on this file.
-- The entries of a tree as the pairs of a map.
use Rattle.std.specs.Prelude.{ℕ, List, map}
use Rattle.key_map.specs.declared.pair.Pair.{Pair}
use Rattle.key_map.specs.Map.{pair}

abbrev pub pairs_of : List (ℕ × ℕ) → List Pair
pairs_of entries = map (λ (e : ℕ × ℕ). pair e.0 e.1) entries
