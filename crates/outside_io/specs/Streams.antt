-- What a source gives and a sink takes, by the bytes that are left or were taken before and after; None where these
-- are not reported. And counts of faults, which never fall and stay at the last value of a u64.
use Rattle.std.specs.Prelude.{◌≡◌, ℕ, ◌+◌, ◌-◌, ◌^◌, ◌<◌, ◌≤◌, ◌↔◌, min, List, [], ◌++◌, Option, Some, None, length, take}

-- the count after one more fault
abbrev pub one_more : ℕ → ℕ
one_more count = min (count + 1) (2 ^ 64 - 1)

-- exactly these bytes were given: what is left has lost them at its start
abbrev pub IsRead : Option (List ℕ) → Option (List ℕ) → List ℕ → Type 0
IsRead (Some before) (Some now) bytes = before ≡ bytes ++ now
IsRead (Some before) None bytes = ⊥
IsRead None now bytes = now ≡ None

-- a read with room for at least one byte gave none exactly where nothing was left
abbrev pub EndsExactly : Option (List ℕ) → ℕ → ℕ → Type 0
EndsExactly (Some before) room n = 0 < room → (n ≡ 0) ↔ (before ≡ [])
EndsExactly None room n = Unit {0}

-- these are all the bytes that were left, and nothing is left
abbrev pub IsReadToEnd : Option (List ℕ) → Option (List ℕ) → List ℕ → Type 0
IsReadToEnd (Some before) now bytes = (bytes ≡ before) × (now ≡ Some [])
IsReadToEnd None now bytes = now ≡ None

-- the source gave some bytes, and no others; this is true of their number
pub record Gave (before now : Option (List ℕ)) (IsCount : ℕ → Type 0) : Type 0 where
  pub bytes : List ℕ
  pub read : IsRead before now bytes
  pub count : IsCount (length bytes)

-- more than `limit` bytes, by no more than one read of 65,536
abbrev pub IsOver : ℕ → ℕ → Type 0
IsOver limit n = (limit < n) × (n ≤ limit + 65536)

-- exactly these bytes were taken: they stand after what was taken before
abbrev pub IsTaken : Option (List ℕ) → Option (List ℕ) → List ℕ → Type 0
IsTaken (Some before) (Some now) bytes = now ≡ before ++ bytes
IsTaken (Some before) None bytes = ⊥
IsTaken None now bytes = now ≡ None

-- only the first bytes were taken, from none to all
pub record TakesStart (before now : Option (List ℕ)) (bytes : List ℕ) : Type 0 where
  pub count : ℕ
  pub most : count ≤ length bytes
  pub taken : IsTaken before now (take count bytes)
