-- Helper: the headline does not rest on this file.
-- Where a name may have been kept.
use Rattle.std.specs.Prelude.{◌≡◌, ℕ, ◌<◌, List, length, IfSome}
use Rattle.key_names.specs.Names.{name_at}
use Rattle.request_lines.specs.declared.name_hints.NameHint.{NameHint}

-- the name is kept under this number
abbrev pub IsKeptAs : List (List ℕ) → List ℕ → ℕ → Type 0
IsKeptAs names name number = (number < length names) × (name_at names number ≡ name)

-- the hint is right for this name: where it has a number, the name is kept under this one, and it has so many bytes
pub record IsRightHint (names : List (List ℕ)) (name : List ℕ) (hint : NameHint) : Type 0 where
  pub there : IfSome hint.number (IsKeptAs names name)
  pub bytes : hint.len ≡ length name
