-- Helper: the headline does not rest on this file.
-- Why a list of names makes no directory.
use Rattle.std.specs.Prelude.{◌≡◌, ℕ, ◌<◌, List, length, All}
use Rattle.std.specs.List.{AllWithin}
use Rattle.key_names.specs.declared.names_error.NamesError.{NamesError}
use Rattle.key_names.specs.declared.names_error.NamesError.TheVariants.{Empty, TooLong, TooMany, NoMemory}
use Rattle.key_names.specs.Names.{IsFine, HoldsEachOnce, most_name_bytes, name_at}
use Rattle.key_names.specs.Ranks.{most_names}

-- the name at this place is the first that is not fine, and this is its fault
pub record IsFirstWith (fault : List ℕ → Type 0) (names : List (List ℕ)) (place : ℕ) : Type 0 where
  pub below : place < length names
  pub here : fault (name_at names place)
  pub before : AllWithin IsFine names 0 place

-- all are fine, and each counted once they are more than a directory has
pub record AreTooMany (names : List (List ℕ)) : Type 0 where
  pub fine : All IsFine names
  pub distinct : List (List ℕ)
  pub each_once : HoldsEachOnce names distinct
  pub many : most_names < length distinct

-- the first faulty name is reported, with its fault; running out of memory says nothing about the names
abbrev pub IsRefusal : List (List ℕ) → NamesError → Type 0
IsRefusal names (Empty place) = IsFirstWith (λ name. length name ≡ 0) names place
IsRefusal names (TooLong place) = IsFirstWith (λ name. most_name_bytes < length name) names place
IsRefusal names TooMany = AreTooMany names
IsRefusal names NoMemory = Unit {0}
