-- The first wrong line of a text that was written for a session. The lines are looked at in this order: first the
-- journal, line by line; then the last line; then the reply lines. The first one that is not right is the wrong line.
use Rattle.std.specs.Prelude.{◌≡◌, ℕ, ◌+◌, ◌-◌, ◌<◌, ◌≤◌, ◌==◌, ◌⊎◌, nat_lt, if◌then◌else◌, List, [], ◌∷◌, ◌++◌, length, take, drop, All, Any, Some, slice_get, slice_index_or}
use Rattle.key_map.specs.declared.update.Update.{Update}
use Rattle.bucket_terms.specs.declared.{record.Record.Record, reply.Placed.Placed}
use Rattle.bucket_terms.specs.LegalRun.{RequestLine, Answered, Setting, IsOf, IsAnswered, IsChangeOf, lines_of}
use Rattle.answer_text.specs.Lines.{line_of, journal_data, reply_data, counting_line}

-- what a text is checked against: the names, the records, each client's request lines, and its node slots
pub record Checked : Type 0 where
  pub dir : List (List ℕ)
  pub records : List Record
  pub parts : List (List RequestLine)
  pub slots : ℕ → ℕ

-- how many requests these clients have
abbrev pub requests_of : List (List RequestLine) → ℕ
requests_of [] = 0
requests_of (lines ∷ parts) = length lines + requests_of parts

-- ---- the journal

-- given the updates of the journal lines before it, this text is the journal line of the update: some PUT, PUTNEW or
-- DELETE line of the session asks for it; no earlier journal line is of that request; and the text is the line of the
-- update at the next place
pub record IsJournalLine (checked : Checked) (earlier : List Update) (text : List ℕ) (update : Update) : Type 0 where
  pub client : update.client < length checked.parts
  pub made : Any (λ asked. (asked.line ≡ update.line) × IsChangeOf checked.dir update asked.request) (lines_of checked.parts update.client)
  pub first : All (λ other. ¬ ((other.client ≡ update.client) × (other.line ≡ update.line))) earlier
  pub text_is : text ≡ line_of (journal_data checked.dir (length earlier + 1) update)

-- given the earlier updates, these texts are the journal lines of these updates
abbrev pub AreJournal : Checked → List Update → List (List ℕ) → List Update → Type 0
AreJournal checked earlier [] [] = Unit {0}
AreJournal checked earlier (text ∷ texts) (update ∷ updates) =
    IsJournalLine checked earlier text update × AreJournal checked (earlier ++ update ∷ []) texts updates
AreJournal checked earlier texts updates = ⊥

-- ---- replies

abbrev pub setting : Checked → List Update → ℕ → Setting
setting checked updates client = record { dir = checked.dir; updates = updates; client = client; slots = checked.slots client }

-- given the earlier answers of the client, the text is the line of this reply, which is right in a legal run: if the
-- history has an update of the request line, the reply stands at its place
pub record IsReplyLine (checked : Checked) (updates : List Update) (client : ℕ) (earlier : List Answered) (asked : RequestLine) (text : List ℕ) (placed : Placed) : Type 0 where
  pub answered : IsAnswered (setting checked updates client) earlier asked placed
  pub own : (before : ℕ) (update : Update) → slice_get updates before ≡ Some update → IsOf (setting checked updates client) asked.line update
      → placed.at ≡ Some (before + 1)
  pub text_is : text ≡ line_of (reply_data checked.dir checked.records placed)

-- given the earlier answers, these texts are the lines of these replies
abbrev pub AreReplies : Checked → List Update → ℕ → List Answered → List RequestLine → List (List ℕ) → List Placed → Type 0
AreReplies checked updates client earlier [] [] [] = Unit {0}
AreReplies checked updates client earlier (asked ∷ lines) (text ∷ texts) (placed ∷ replies) =
    IsReplyLine checked updates client earlier asked text placed
    × AreReplies checked updates client (earlier ++ record { asked = asked; placed = placed } ∷ []) lines texts replies
AreReplies checked updates client earlier lines texts replies = ⊥

-- ---- the wrong line

-- the number of the client's first reply line, from 0, and its reply lines
abbrev pub first_reply : Checked → ℕ → ℕ
first_reply checked client = requests_of (take client checked.parts)

abbrev pub reply_texts : Checked → List (List ℕ) → ℕ → List (List ℕ)
reply_texts checked texts client = take (length (lines_of checked.parts client)) (drop (first_reply checked client) texts)

-- the lines of a text after its reply lines, without the last one
abbrev pub journal_texts : Checked → List (List ℕ) → List (List ℕ)
journal_texts checked texts = take (length texts - requests_of checked.parts - 1) (drop (requests_of checked.parts) texts)

-- the first `count` of the client's reply lines are right, or all if there are fewer
abbrev pub FirstReplies : Checked → List Update → List (List ℕ) → (client count : ℕ) → Type 0
FirstReplies checked updates texts client count =
    (replies : List Placed) × AreReplies checked updates client [] (take count (lines_of checked.parts client)) (take count (reply_texts checked texts client)) replies

-- the first `count` of the lines that are looked at are right
pub record AreRight (checked : Checked) (texts : List (List ℕ)) (count : ℕ) : Type 0 where
  pub updates : List Update
  pub journal : AreJournal checked [] (take count (journal_texts checked texts)) updates
  pub last : length (journal_texts checked texts) < count → slice_index_or texts (length texts - 1) [] ≡ counting_line (length updates)
  pub replied : (client : ℕ) → client < length checked.parts
      → FirstReplies checked updates texts client (count - length (journal_texts checked texts) - 1 - first_reply checked client)

-- the number, from 1, of the line that is looked at after `count` others: in the journal, the last one, or a reply
abbrev pub looked_at : Checked → List (List ℕ) → ℕ → ℕ
looked_at checked texts count =
    if nat_lt count (length (journal_texts checked texts)) then requests_of checked.parts + count + 1
    else if count == length (journal_texts checked texts) then length texts
    else count - length (journal_texts checked texts)

-- the first lines that are looked at are right, and the next one is not
pub record IsNotRight (checked : Checked) (texts : List (List ℕ)) (line : ℕ) : Type 0 where
  pub long : requests_of checked.parts < length texts
  pub before : ℕ
  pub inside : before < length texts
  pub right : AreRight checked texts before
  pub wrong : ¬ (AreRight checked texts (before + 1))
  pub line_is : line ≡ looked_at checked texts before

-- the line, counted from 1, is the first wrong one of a text with these lines. A text wants a line for each request and
-- one more; where it has fewer, the first one that it lacks is the wrong one.
abbrev pub IsWrongLine : Checked → List (List ℕ) → ℕ → Type 0
IsWrongLine checked texts line =
    ((length texts ≤ requests_of checked.parts) × (line ≡ length texts + 1)) ⊎ IsNotRight checked texts line
