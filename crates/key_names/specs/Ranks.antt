-- Helper: the headline does not rest on this file.
-- Where the names of a directory stand relative to a text.
use Rattle.std.specs.Prelude.{◌≡◌, ℕ, ◌<◌, ◌≤◌, ◌↔◌, Bool, ◌||◌, IsTrue, nat_lt, List, length, All}
use Rattle.std.specs.Ordering.{is_lt, is_le}
use Rattle.key_names.specs.Names.{byte_order, IsFine, Rises, name_at, begins_with}

-- the most names of a directory: a rank has 32 bits
abbrev pub most_names : ℕ
most_names = 4294967295

-- a directory: fine names that rise strictly, not too many
pub record IsDirectory (names : List (List ℕ)) : Type 0 where
  pub rising : Rises names
  pub fine : All IsFine names
  pub few : length names ≤ most_names

-- whether the name is below the bytes, and whether it is at most the bytes
abbrev pub is_before : List ℕ → List ℕ → Bool
is_before name bytes = is_lt (byte_order name bytes)

abbrev pub is_upto : List ℕ → List ℕ → Bool
is_upto name bytes = is_le (byte_order name bytes)

-- whether the name is below the prefix or begins with it
abbrev pub is_upto_prefix : List ℕ → List ℕ → Bool
is_upto_prefix name prefix = is_before name prefix || begins_with name prefix

-- the names that pass the test are those at the ranks below `end`
abbrev pub StandFirst : (List ℕ → Bool) → List (List ℕ) → ℕ → Type 0
StandFirst test names end = (rank : ℕ) → rank < length names → nat_lt rank end ≡ test (name_at names rank)

-- the names that begin with the prefix are those from the rank `start` up to the rank `end`
abbrev pub StandTogether : List (List ℕ) → List ℕ → ℕ → ℕ → Type 0
StandTogether names prefix start end =
    (rank : ℕ) → rank < length names → IsTrue (begins_with (name_at names rank) prefix) ↔ ((start ≤ rank) × (rank < end))
