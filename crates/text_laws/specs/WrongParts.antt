-- Helper: the headline does not rest on this file.
-- In which part of a text its first wrong line stands.
use Rattle.std.specs.Prelude.{◌≡◌, ℕ, ◌+◌, ◌-◌, ◌<◌, ◌≤◌, ◌⊎◌, List, [], length, take, Some, slice_get, slice_index_or}
use Rattle.key_map.specs.declared.update.Update.{Update}
use Rattle.bucket_terms.specs.declared.reply.Placed.{Placed}
use Rattle.bucket_terms.specs.LegalRun.{RequestLine, IsChangeOf, answered_lines, lines_of}
use Rattle.answer_text.specs.Lines.{counting_line}
use Rattle.text_laws.specs.WrongLine.{Checked, IsJournalLine, AreJournal, IsReplyLine, AreReplies, requests_of, first_reply, reply_texts, journal_texts}

-- the request line is that of the update, and asks for it
abbrev pub Makes : List (List ℕ) → Update → RequestLine → Type 0
Makes dir update asked = (asked.line ≡ update.line) × IsChangeOf dir update asked.request

-- both updates are of the same request line
abbrev pub AreOfOneLine : Update → Update → Type 0
AreOfOneLine update other = (update.client ≡ other.client) × (update.line ≡ other.line)

-- the text has too few lines, and the line is the first that it lacks
abbrev pub IsShort : Checked → List (List ℕ) → ℕ → Type 0
IsShort c texts line = (length texts ≤ requests_of c.parts) × (line ≡ length texts + 1)

-- the last line of a text
abbrev pub last_text : List (List ℕ) → List ℕ
last_text texts = slice_index_or texts (length texts - 1) []

abbrev pub text_at : List (List ℕ) → ℕ → List ℕ
text_at texts place = slice_index_or texts place []

-- the text has a line for each request, for each update of the journal, and one more
abbrev pub HasAllParts : Checked → List (List ℕ) → Type 0
HasAllParts c texts = requests_of c.parts < length texts

-- the reply lines of the first clients are right, and are those of these replies
pub record AreAllReplies (c : Checked) (updates : List Update) (texts : List (List ℕ)) (clients : ℕ) (replies : List (List Placed)) : Type 0 where
  pub count : length replies ≡ clients
  pub each : (client : ℕ) → client < clients
      → AreReplies c updates client [] (lines_of c.parts client) (reply_texts c texts client) (slice_index_or replies client [])

-- each line is right
pub record AreAllRight (c : Checked) (texts : List (List ℕ)) : Type 0 where
  pub long : HasAllParts c texts
  pub updates : List Update
  pub journal : AreJournal c [] (journal_texts c texts) updates
  pub last : last_text texts ≡ counting_line (length updates)
  pub replies : List (List Placed)
  pub replied : AreAllReplies c updates texts (length c.parts) replies

-- this line of the journal, from 0, is the first that is not right
pub record IsWrongUpdate (c : Checked) (texts : List (List ℕ)) (place : ℕ) : Type 0 where
  pub inside : place < length texts
  pub updates : List Update
  pub right : AreJournal c [] (take place texts) updates
  pub here : (u : Update) → ¬ (IsJournalLine c updates (text_at texts place) u)

-- this reply line, from 0, is the first that is not right: those of the clients before are right, and those of this
-- client before it
pub record IsWrongReply (c : Checked) (updates : List Update) (texts : List (List ℕ)) (place : ℕ) : Type 0 where
  pub client : ℕ
  pub within : client < length c.parts
  pub others : List (List Placed)
  pub before : AreAllReplies c updates texts client others
  pub number : ℕ
  pub asked : RequestLine
  pub asked_is : slice_get (lines_of c.parts client) number ≡ Some asked
  pub place_is : place ≡ first_reply c client + number
  pub replies : List Placed
  pub right : AreReplies c updates client [] (take number (lines_of c.parts client)) (take number (reply_texts c texts client)) replies
  pub here : (p : Placed) → ¬ (IsReplyLine c updates client (answered_lines (take number (lines_of c.parts client)) replies) asked (text_at (reply_texts c texts client) number) p)

-- the wrong line is one of the journal
pub record IsWrongInJournal (c : Checked) (texts : List (List ℕ)) (line : ℕ) : Type 0 where
  pub long : HasAllParts c texts
  pub place : ℕ
  pub wrong : IsWrongUpdate c (journal_texts c texts) place
  pub line_is : line ≡ requests_of c.parts + place + 1

-- the journal is right, and the last line does not give the number of its updates
pub record IsWrongAtLast (c : Checked) (texts : List (List ℕ)) (line : ℕ) : Type 0 where
  pub long : HasAllParts c texts
  pub updates : List Update
  pub journal : AreJournal c [] (journal_texts c texts) updates
  pub wrong : ¬ (last_text texts ≡ counting_line (length updates))
  pub line_is : line ≡ length texts

-- the journal and the last line are right, and the wrong line is a reply line
pub record IsWrongInReplies (c : Checked) (texts : List (List ℕ)) (line : ℕ) : Type 0 where
  pub long : HasAllParts c texts
  pub updates : List Update
  pub journal : AreJournal c [] (journal_texts c texts) updates
  pub last : last_text texts ≡ counting_line (length updates)
  pub place : ℕ
  pub wrong : IsWrongReply c updates texts place
  pub line_is : line ≡ place + 1

-- the line is the first wrong one of a text with these lines, by the part in which it stands
abbrev pub IsWrongInPart : Checked → List (List ℕ) → ℕ → Type 0
IsWrongInPart c texts line = IsShort c texts line ⊎ (IsWrongInJournal c texts line ⊎ (IsWrongAtLast c texts line ⊎ IsWrongInReplies c texts line))
