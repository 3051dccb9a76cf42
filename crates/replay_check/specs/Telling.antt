-- Helper: the headline does not rest on this file.
-- What a session is checked against, and what a journal line states.
use Rattle.std.specs.Prelude.{◌≡◌, ℕ, ◌<◌, ◌≤◌, List, [], map, length, Any, Option, Some, MatchOption, slice_get}
use Rattle.std.specs.Borrow.{Bor}
use Rattle.std.specs.Option.{unwrap_or}
use Rattle.key_names.specs.Names.{HoldsEachOnce}
use Rattle.key_map.specs.declared.update.Update.{Update}
use Rattle.key_map.specs.declared.update.Change.{Change}
use Rattle.bucket_terms.specs.LegalRun.{RequestLine, AskedChange, lines_of, slots_of}
use Rattle.request_lines.specs.declared.session.Session.{Session}
use Rattle.request_lines.specs.Session.{request_lines}
use Rattle.request_lines.specs.SessionLaws.{HasNames, HasRecords, HasRequests, HasLines, IsSmall}
use Rattle.text_laws.specs.WrongLine.{Checked, IsJournalLine, AreJournal}
use Rattle.text_laws.specs.WrongParts.{IsWrongUpdate, Makes}
use Rattle.replay_check.specs.declared.journal.Told.{Told}
use Rattle.replay_check.specs.declared.journal.Journal.{Journal}
use Rattle.replay_check.specs.declared.journal.Journal.TheVariants.{Right, Wrong}
use Rattle.replay_check.specs.Own.{AreOwn}

-- the session is that of some input, and these are its names
pub record IsRead (session : Session) (dir : List (List ℕ)) : Type 0 where
  pub names : HasNames session
  pub records : HasRecords session
  pub requests : HasRequests session
  pub lines : HasLines session
  pub small : IsSmall session
  pub directory : HoldsEachOnce session.names dir

-- what a text is checked against: each client has the node slots that are named, or, without a number, what its lines
-- ask for
abbrev pub checked : Session → List (List ℕ) → Option ℕ → Checked
checked session dir named = record {
  dir = dir;
  records = session.records;
  parts = map request_lines session.clients;
  slots = λ client. unwrap_or named (slots_of (map request_lines session.clients) client);
}

-- the texts are checked against this session
pub record IsOfSession (c : Checked) (session : Session) (dir : List (List ℕ)) : Type 0 where
  pub dir_is : c.dir ≡ dir
  pub records_is : c.records ≡ session.records
  pub parts_is : c.parts ≡ map request_lines session.clients

-- the update is one that this request line of its client would make
pub record IsTold (c : Checked) (told : Told) : Type 0 where
  pub client : told.update.client < length c.parts
  pub asked : RequestLine
  pub asked_is : slice_get (lines_of c.parts told.update.client) told.request ≡ Some asked
  pub makes : Makes c.dir told.update asked

-- the update is what this line of the client would make
pub record IsMadeAt (dir : List (List ℕ)) (lines : List RequestLine) (client line : ℕ) (told : Told) : Type 0 where
  pub client_is : told.update.client ≡ client
  pub line_is : told.update.line ≡ line
  pub asked : RequestLine
  pub asked_is : slice_get lines told.request ≡ Some asked
  pub makes : Makes dir told.update asked

-- what the client's line with this number would make, if it would make an update
abbrev pub IsToldBy : List (List ℕ) → List RequestLine → ℕ → ℕ → Option Told → Type 0
IsToldBy dir lines client line found =
    MatchOption found ((u : Update) → u.line ≡ line → ¬ (Any (Makes dir u) lines)) (IsMadeAt dir lines client line)

-- the lines before this place are below the number, and the others are not
pub record IsSplitAt (lines : List RequestLine) (line place : ℕ) : Type 0 where
  pub before : (i : ℕ) (l : RequestLine) → slice_get lines i ≡ Some l → i < place → l.line < line
  pub behind : (i : ℕ) (l : RequestLine) → slice_get lines i ≡ Some l → place ≤ i → line ≤ l.line

-- a change, and the name of its key
abbrev pub named_change : Bor (List ℕ) × Change → AskedChange
named_change found = record { name = found.0.now; change = found.1 }

-- the text is the journal line of the update that was found, or of none
abbrev pub IsNext : Checked → List Update → List ℕ → Option Told → Type 0
IsNext c earlier text found =
    MatchOption found ((u : Update) → ¬ (IsJournalLine c earlier text u)) (λ told. IsTold c told × IsJournalLine c earlier text told.update)

-- what the journal lines state: their updates, with the places of the requests that made them, or the first wrong line
abbrev pub IsJournalOf : Checked → List (List ℕ) → Journal → Type 0
IsJournalOf c texts (Right updates own) = AreJournal c [] texts updates.items × AreOwn c.parts updates.items own.items
IsJournalOf c texts (Wrong place) = IsWrongUpdate c texts place
