-- Helper: the headline does not rest on this file.
-- What a reply must be to have a line: its ranks and the places of its records are in range.
use Rattle.std.specs.Prelude.{ℕ, ◌<◌, List, length, All}
use Rattle.bucket_terms.specs.declared.record.Record.{Record}
use Rattle.bucket_terms.specs.declared.page.PageEntry.{PageEntry}
use Rattle.bucket_terms.specs.declared.page.PageEntry.TheVariants.{Key, Group}
use Rattle.bucket_terms.specs.declared.page.Page.{Page}
use Rattle.bucket_terms.specs.declared.reply.Reply.{Reply}
use Rattle.bucket_terms.specs.declared.reply.Reply.TheVariants.{Put, Exists, Deleted, Found, Missing, Listed, ListedV1, BadToken, NoSlot}
use Rattle.bucket_terms.specs.PageInRange.{IsInRange}

-- a key's value is the place of a record
abbrev pub HasRecord : List Record → PageEntry → Type 0
HasRecord records (Key rank val) = val < length records
HasRecord records (Group rank len) = Unit {0}

-- the page is one of the directory, and its keys have records
pub record IsPageOf (dir : List (List ℕ)) (records : List Record) (page : Page) : Type 0 where
  pub in_range : IsInRange dir page
  pub recorded : All (HasRecord records) page.entries

abbrev pub IsReplyOf : List (List ℕ) → List Record → Reply → Type 0
IsReplyOf dir records (Put was) = Unit {0}
IsReplyOf dir records Exists = Unit {0}
IsReplyOf dir records Deleted = Unit {0}
IsReplyOf dir records (Found val) = val < length records
IsReplyOf dir records Missing = Unit {0}
IsReplyOf dir records (Listed query page) = IsPageOf dir records page
IsReplyOf dir records (ListedV1 query page) = IsPageOf dir records page
IsReplyOf dir records BadToken = Unit {0}
IsReplyOf dir records NoSlot = Unit {0}
