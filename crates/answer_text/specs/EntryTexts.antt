-- Helper: the headline does not rest on this file.
-- The texts of entries that are made once, for the pages that show them.
use Rattle.std.specs.Prelude.{◌≡◌, ℕ, ◌+◌, ◌<◌, true, false, Bool, is_none, if◌then◌else◌, List, length, ◌++◌, All, Option, Some, None, IfSome, string_bytes, slice_get, slice_set}
use Rattle.std.specs.Option.{option_and_then, option_map, option_map_or}
use Rattle.serde_json.specs.Written.{comma_if}
use Rattle.key_names.specs.Names.{name_at}
use Rattle.bucket_terms.specs.declared.record.Record.{Record}
use Rattle.bucket_terms.specs.declared.page.PageEntry.{PageEntry}
use Rattle.bucket_terms.specs.declared.page.PageEntry.TheVariants.{Key, Group}
use Rattle.answer_text.specs.declared.entry_texts.EntryText.{EntryText}
use Rattle.answer_text.specs.declared.entry_texts.WantedTexts.TheInside.{Inside}
use Rattle.answer_text.specs.Lines.{record_at}
use Rattle.answer_text.specs.Pieces.{content_text}

-- what an array has of a key and its record after another entry
abbrev pub later_text : List ℕ → Record → List ℕ
later_text key r = comma_if true ++ content_text key r

-- the text is that of its key and its record
abbrev pub IsRight : List (List ℕ) → List Record → EntryText → Type 0
IsRight dir records t = string_bytes t.text ≡ later_text (name_at dir t.rank) (record_at records t.val)

-- each text that is there is right
abbrev pub AreRight : List (List ℕ) → List Record → List (Option EntryText) → Type 0
AreRight dir records texts = All (λ (o : Option EntryText). IfSome o (IsRight dir records)) texts

-- of a session's names and records, which entries' texts are wanted: at the place of each record the rank of the
-- key with which a page shows it
pub record WantedView : Type 0 where
  pub dir : List (List ℕ)
  pub records : List Record
  pub ranks : List (Option ℕ)

abbrev pub wanted_of : Inside → WantedView
wanted_of w = record { dir = w.dir.now; records = w.records.now; ranks = w.ranks.items }

-- there is a place for each record, and each rank that is there is that of a name
pub record AreWanted (w : WantedView) : Type 0 where
  pub places : length w.ranks ≡ length w.records
  pub ranked : All (λ (o : Option ℕ). IfSome o (λ (rank : ℕ). rank < length w.dir)) w.ranks

-- whether there is such a place, and no rank is there
abbrev pub is_free : List (Option ℕ) → ℕ → Bool
is_free ranks place = option_map_or is_none (slice_get ranks place) false

-- with the text of one more entry: a key's rank is stored at the place of its record, if that is free
abbrev pub wanted_with : WantedView → PageEntry → WantedView
wanted_with w (Key rank val) = record { dir = w.dir; records = w.records; ranks = if is_free w.ranks val then slice_set w.ranks val (Some rank) else w.ranks }
wanted_with w (Group rank len) = w

-- the rank that is wanted at a place, where one is
abbrev pub wanted_at : WantedView → ℕ → Option ℕ
wanted_at w place = option_and_then (λ (o : Option ℕ). o) (slice_get w.ranks place)

-- an entry's text, without its bytes: the rank of its key and the place of its record
pub record Shown : Type 0 where
  pub rank : ℕ
  pub val : ℕ

abbrev pub shown_by : Option EntryText → Option Shown
shown_by o = option_map (λ (t : EntryText). record { rank = t.rank; val = t.val }) o

-- what is made for a place shows the record there with the rank that is wanted, and nothing where none is
abbrev pub IsMadeFor : WantedView → ℕ → Option EntryText → Type 0
IsMadeFor w place o = shown_by o ≡ option_map (λ (rank : ℕ). record { rank = rank; val = place }) (wanted_at w place)

-- the texts are those of the places from one on
abbrev pub AreMadeFrom : WantedView → ℕ → List (Option EntryText) → Type 0
AreMadeFrom w from texts = (k : ℕ) (o : Option EntryText) → slice_get texts k ≡ Some o → IsMadeFor w (from + k) o
