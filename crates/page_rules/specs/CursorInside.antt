-- Helper: the headline does not rest on this file.
-- What a cursor keeps.
use Rattle.std.specs.Prelude.{◌≡◌, ℕ, ◌<◌, ◌≤◌, true, false, ⊤, length, All, MatchOption}
use Rattle.key_names.specs.Names.{name_at}
use Rattle.key_names.specs.Ranks.{is_before}
use Rattle.bucket_terms.specs.PageInRange.{IsEntryInRange}
use Rattle.page_rules.specs.Cursor.{CursorView}
use Rattle.page_rules.specs.PrefixRanks.{AreListed}
use Rattle.page_rules.specs.declared.cursor.PageCursor.TheInside.{Inside}

abbrev pub view_of : Inside → CursorView
view_of c = record { dir = c.dir.now; query = c.query.now; entries = c.entries; next = c.next; truncated = c.truncated }

-- a page that is not settled: it may have entries, and no name from the next rank on is below the prefix
pub record IsOpenAt (v : CursorView) (rank : ℕ) : Type 0 where
  pub some : 0 < v.query.max_keys
  pub within : rank ≤ length v.dir
  pub prefix : (k : ℕ) → k < length v.dir → rank ≤ k → is_before (name_at v.dir k) v.query.prefix ≡ false
  pub not_yet : v.truncated ≡ false

-- the entries have room and are in range
pub record IsCursor (v : CursorView) : Type 0 where
  pub room : length v.entries ≤ v.query.max_keys
  pub in_range : All (IsEntryInRange v.dir) v.entries
  pub some : v.truncated ≡ true → 0 < length v.entries
  pub unsettled : MatchOption v.next ⊤ (IsOpenAt v)

-- what is kept of the ranks of the listed names is right
abbrev pub HasRanks : Inside → Type 0
HasRanks c = AreListed c.dir.now c.query.now c.ranks
