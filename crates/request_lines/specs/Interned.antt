-- Helper: the headline does not rest on this file.
-- Names that are kept once, with their places in the order of the lines.
use Rattle.std.specs.Prelude.{◌≡◌, ◌⊎◌, ℕ, ◌<◌, ◌≤◌, List, [], ◌∷◌, ◌++◌, length, map, All, Contains, Option, Some, None, IfSome, slice_index}
use Rattle.std.specs.List.{range_with_len}
use Rattle.key_names.specs.Names.{name_at}
use Rattle.key_names.specs.Ranks.{most_names}
use Rattle.std.specs.List.Sorted.{IsPermutation}
use Rattle.request_lines.specs.declared.leads.Numbered.{Numbered}

-- the names at these places of a list
abbrev pub named : List (List ℕ) → List ℕ → List (List ℕ)
named kept order = map (name_at kept) order

-- the places are the list's, and each of its names stands at one of them
pub record IsInterned (kept : List (List ℕ)) (order : List ℕ) : Type 0 where
  pub below : All (λ place. place < length kept) order
  pub used : (name : List ℕ) → Contains kept name → Contains (named kept order) name

-- the names of the lines, in their order: of those that are kept with their places, or of a list that has one for each line
abbrev pub names_kept : List (List ℕ) → Option (List ℕ) → List (List ℕ)
names_kept names None = names
names_kept kept (Some order) = named kept order

-- where there are places, they are those of the names; and of no more lines than a directory has names at most
pub record AreKept (names : List (List ℕ)) (order : Option (List ℕ)) : Type 0 where
  pub interned : IfSome order (IsInterned names)
  pub few : length (names_kept names order) ≤ most_names

-- the name has this number among the known ones: it was among them, or it joins them
pub record IsKnownAs (old new : List (List ℕ)) (name : List ℕ) (number : ℕ) : Type 0 where
  pub known : (new ≡ old) ⊎ (new ≡ old ++ name ∷ [])
  pub below : number < length new
  pub is : name_at new number ≡ name

abbrev pub number_in : Numbered → ℕ
number_in entry = entry.number

-- each number of a name stands here once
abbrev pub AreNumbered : List (List ℕ) → List Numbered → Type 0
AreNumbered names entries = IsPermutation (range_with_len 0 (length names)) (map number_in entries)

-- the names were moved: for each number the place where its name stands now, and for each place the number of its name
pub record AreMoved (names moved : List (List ℕ)) (places numbers : List ℕ) : Type 0 where
  pub names_count : length moved ≡ length names
  pub places_count : length places ≡ length names
  pub numbers_count : length numbers ≡ length names
  pub place : (number : ℕ) → number < length names → slice_index places number < length names
  pub number : (place : ℕ) → place < length names → slice_index numbers place < length names
  pub number_at : (number : ℕ) → number < length names → slice_index numbers (slice_index places number) ≡ number
  pub place_of : (place : ℕ) → place < length names → slice_index places (slice_index numbers place) ≡ place
  pub is : (number : ℕ) → number < length names → name_at moved (slice_index places number) ≡ name_at names number

-- the names by their places among those that are kept
pub record IsRankedBy (names : List (List ℕ)) (kept : List (List ℕ)) (ranks : List ℕ) : Type 0 where
  pub interned : IsInterned kept ranks
  pub are : named kept ranks ≡ names
