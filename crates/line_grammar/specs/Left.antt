-- Helper: the headline does not rest on this file.
-- The fields of a line, and what is left of a text that is read from the front.
use Rattle.std.specs.Prelude.{◌≡◌, ℕ, ◌+◌, ◌==◌, List, [], ◌∷◌, length, Option, Some, None}
use Rattle.std.specs.Borrow.{Bor}
use Rattle.std.specs.List.{slice_split}

-- the fields of a line: it is cut at each space
abbrev pub fields_of : List ℕ → List (List ℕ)
fields_of text = slice_split (λ b. b == 32) text

-- how much is left: nothing, or these bytes, of which the last part may have none
abbrev pub size_left : Option (Bor (List ℕ)) → ℕ
size_left None = 0
size_left (Some bytes) = length bytes.now + 1

-- the parts that are left of a text that is cut at each of this byte
abbrev pub parts_left : ℕ → Option (Bor (List ℕ)) → List (List ℕ)
parts_left at None = []
parts_left at (Some text) = slice_split (λ b. b == at) text.now

-- the first of these parts, and what is left after it
abbrev pub IsNextPart : ℕ → Option (Bor (List ℕ)) → Bor (List ℕ) × Option (Bor (List ℕ)) → Type 0
IsNextPart at left next = parts_left at left ≡ next.0.now ∷ parts_left at next.1

-- there is no part, or there are several
abbrev pub IsNotOne : List (List ℕ) → Type 0
IsNotOne [] = Unit {0}
IsNotOne (part ∷ []) = ⊥
IsNotOne (part ∷ another ∷ parts) = Unit {0}
