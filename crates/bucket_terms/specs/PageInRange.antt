-- Helper: the headline does not rest on this file.
-- Pages whose ranks and lengths are in range.
use Rattle.std.specs.Prelude.{◌≡◌, ℕ, ◌<◌, true, List, length, All}
use Rattle.std.specs.Str.{IsCharBoundary}
use Rattle.key_names.specs.Names.{name_at}
use Rattle.bucket_terms.specs.declared.page.PageEntry.{PageEntry}
use Rattle.bucket_terms.specs.declared.page.PageEntry.TheVariants.{Key, Group}
use Rattle.bucket_terms.specs.declared.page.Page.{Page}

-- the rank is that of a name, and the common prefix has a byte at least and ends with a character of the name
pub record IsGroupInRange (dir : List (List ℕ)) (rank len : ℕ) : Type 0 where
  pub below : rank < length dir
  pub not_empty : 0 < len
  pub whole : IsCharBoundary (name_at dir rank) len

abbrev pub IsEntryInRange : List (List ℕ) → PageEntry → Type 0
IsEntryInRange dir (Key rank val) = rank < length dir
IsEntryInRange dir (Group rank len) = IsGroupInRange dir rank len

-- a page in range: so are its entries, and it has one where it is truncated
pub record IsInRange (dir : List (List ℕ)) (page : Page) : Type 0 where
  pub entries : All (IsEntryInRange dir) page.entries
  pub some : page.truncated ≡ true → 0 < length page.entries
