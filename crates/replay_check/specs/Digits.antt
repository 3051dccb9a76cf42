-- Helper: the headline does not rest on this file.
-- Where the digits of a text stand.
use Rattle.std.specs.Prelude.{◌≡◌, ℕ, ◌-◌, ◌<◌, ◌≤◌, true, false, List, ◌++◌, length, codes, decimal, slice_index_or}
use Rattle.std.specs.Char.{is_ascii_digit}

abbrev pub byte_at : List ℕ → ℕ → ℕ
byte_at text i = slice_index_or text i 0

-- exactly this many digits stand at the front
pub record IsFrontRun (text : List ℕ) (len : ℕ) : Type 0 where
  pub within : len ≤ length text
  pub digits : (i : ℕ) → i < len → is_ascii_digit (byte_at text i) ≡ true
  pub ends : len < length text → is_ascii_digit (byte_at text len) ≡ false

-- the last digit stands before this place, or there is none
pub record IsLastEnd (text : List ℕ) (end : ℕ) : Type 0 where
  pub within : end ≤ length text
  pub others : (i : ℕ) → end ≤ i → i < length text → is_ascii_digit (byte_at text i) ≡ false
  pub last : 0 < end → is_ascii_digit (byte_at text (end - 1)) ≡ true

-- from this place on the text has digits alone, and before it stands another byte or nothing
pub record IsLastStart (text : List ℕ) (start : ℕ) : Type 0 where
  pub within : start ≤ length text
  pub digits : (i : ℕ) → start ≤ i → i < length text → is_ascii_digit (byte_at text i) ≡ true
  pub before : 0 < start → is_ascii_digit (byte_at text (start - 1)) ≡ false

-- how a journal line begins, and what stands after it
abbrev pub start_of_journal : ℕ → ℕ → List ℕ → List ℕ
start_of_journal at client rest = codes "{\"At\":" ++ (decimal at ++ (codes ",\"Client\":" ++ (decimal client ++ rest)))
