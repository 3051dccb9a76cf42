-- The entries of a bundle as plain data, newest first, and the place of the one that a number selects.
use Rattle.std.specs.Prelude.{◌≡◌, ℕ, ◌+◌, ◌<◌, ◌≤◌, List, length, take, Option, Some, None, slice_index, slice_index_or, All}
use Rattle.core_links.specs.declared.entry.Entry.{Entry}
use Rattle.core_links.specs.Bundle.{select, StaysSelected, StaysBehind, IsWalkedTo}

-- each entry has a number above `t`
abbrev pub NumberedAbove : ℕ → List Entry → Type 0
NumberedAbove t bundle = All (λ (e : Entry). t < e.stamp) bundle

-- the entry at the place has a number of at most `t`, and each entry in front of it a greater one
pub record IsFirstPlace (t : ℕ) (bundle : List Entry) (place : ℕ) : Type 0 where
  pub within : place < length bundle
  pub selected : (d : Entry) → (slice_index_or bundle place d).stamp ≤ t
  pub passed : (k : ℕ) (d : Entry) → k < place → t < (slice_index_or bundle k d).stamp

-- a list of entries by name, whose numbers are those of the bundle
pub record Names (number : ℕ → ℕ) (names : List ℕ) (bundle : List Entry) : Type 0 where
  pub long : length names ≡ length bundle
  pub numbers : (k : ℕ) (d : Entry) → k < length names → number (slice_index names k) ≡ (slice_index_or bundle k d).stamp

-- the name at a place, 0 for none
abbrev pub name_at : List ℕ → Option ℕ → ℕ
name_at names None = 0
name_at names (Some place) = slice_index names place

-- however the entries are named, the one at this place is selected
abbrev pub IsSelection : ℕ → List Entry → Option ℕ → Type 0
IsSelection t bundle place =
    (number : ℕ → ℕ) (names : List ℕ) → Names number names bundle → select number t names ≡ name_at names place

-- however the entries are named: the entry stays selected if another numbering agrees on each entry at `t`
abbrev pub StaysAtPlace : ℕ → List Entry → Option ℕ → Type 0
StaysAtPlace t bundle place =
    (number : ℕ → ℕ) (names : List ℕ) → Names number names bundle → StaysSelected number t names (name_at names place)

-- and if an entry with a greater number is put in front
abbrev pub StaysBehindFront : ℕ → List Entry → Option ℕ → Type 0
StaysBehindFront t bundle place =
    (number : ℕ → ℕ) (names : List ℕ) → Names number names bundle → StaysBehind number t names (name_at names place)

-- and a reader that has passed only entries with greater numbers selects it
abbrev pub IsWalkedToPlace : ℕ → List Entry → Option ℕ → Type 0
IsWalkedToPlace t bundle place =
    (number : ℕ → ℕ) (names : List ℕ) → Names number names bundle → IsWalkedTo number t names (name_at names place)

-- how many entries are kept, from the front: up to and including the first that has a number of at most `least`, or all
pub record IsKept (least : ℕ) (bundle : List Entry) (kept : ℕ) : Type 0 where
  pub all : NumberedAbove least bundle → kept ≡ length bundle
  pub upto : (place : ℕ) → IsFirstPlace least bundle place → kept ≡ place + 1

-- however the entries are named, each number from `least` on selects among the kept entries what it selects among all
abbrev pub KeepsSelected : ℕ → List Entry → ℕ → Type 0
KeepsSelected least bundle kept =
    (number : ℕ → ℕ) (names : List ℕ) (t : ℕ) → Names number names bundle → least ≤ t
    → select number t (take kept names) ≡ select number t names
