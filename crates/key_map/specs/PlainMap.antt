-- Helper: the headline does not rest on this file.
-- What contracts see of a map kept as one sorted list.
use Rattle.std.specs.Prelude.{ℕ, List}
use Rattle.key_map.specs.declared.pair.Pair.{Pair}

-- the pairs, in order, and how many pairs there is memory for
pub record RoomyMap : Type 0 where
  pub pairs : List Pair
  pub room : ℕ

abbrev pub roomy : List Pair → ℕ → RoomyMap
roomy pairs room = record { pairs = pairs; room = room }
