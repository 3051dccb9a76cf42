-- Helper: the headline does not rest on this file.
-- What is found of the reply lines, one after another.
use Rattle.std.specs.Prelude.{◌≡◌, ℕ, ◌+◌, ◌-◌, ◌*◌, ◌^◌, ◌<◌, ◌≤◌, ◌==◌, List, [], ◌∷◌, ◌++◌, length, map, take, Any, Option, Some, is_some, IfSome, MatchOption, slice_get, if◌then◌else◌}
use Rattle.std.specs.Borrow.{Bor}
use Rattle.std.specs.Option.{unwrap_or, ForSome}
use Rattle.key_map.specs.declared.update.Update.{Update}
use Rattle.bucket_terms.specs.declared.reply.Placed.{Placed}
use Rattle.bucket_terms.specs.declared.request.Request.{Request}
use Rattle.bucket_terms.specs.LegalRun.{RequestLine, Answered, answered_lines, is_listing, last_listing, lines_of}
use Rattle.answer_text.specs.Pieces.{place_text}
use Rattle.client_run.specs.Listing.{HasPageInRange}
use Rattle.text_laws.specs.WrongLine.{Checked, AreJournal, journal_texts, IsReplyLine, AreReplies, reply_texts, first_reply}
use Rattle.text_laws.specs.WrongParts.{AreAllReplies, IsWrongReply, HasAllParts, text_at, AreOfOneLine, Makes}
use Rattle.replay_check.specs.declared.basis.Basis.{Basis}
use Rattle.replay_check.specs.declared.turns.Client.{Client}
use Rattle.replay_check.specs.Own.{AreOwn}
use Rattle.replay_check.specs.Telling.{IsRead, checked}
use Rattle.replay_check.specs.Turns.{HasSeen, used_before}

-- ---- what the lines are checked against

-- the texts of lines
abbrev pub texts_of : List (Bor (List ℕ)) → List (List ℕ)
texts_of lines = map (λ (line : Bor (List ℕ)). line.now) lines

abbrev pub against : Basis → Checked
against b = checked b.session.now b.dir.now b.slots

abbrev pub texts_in : Basis → List (List ℕ)
texts_in b = texts_of b.lines.now

-- each update is one that a line of its client would make, and no two are of one line
pub record AreMade (c : Checked) (updates : List Update) : Type 0 where
  pub made : (i : ℕ) (u : Update) → slice_get updates i ≡ Some u → (u.client < length c.parts) × Any (Makes c.dir u) (lines_of c.parts u.client)
  pub one : (i j : ℕ) (u v : Update) → slice_get updates i ≡ Some u → slice_get updates j ≡ Some v → AreOfOneLine u v → i ≡ j

-- the journal and the last line are right
pub record IsBasis (b : Basis) : Type 0 where
  pub read : IsRead b.session.now b.dir.now
  pub short : length b.updates.now < 2 ^ 63
  pub made : AreMade (against b) b.updates.now
  pub own : AreOwn (against b).parts b.updates.now b.own.now
  pub long : HasAllParts (against b) (texts_in b)

-- the journal is right
pub record HasJournal (b : Basis) : Type 0 where
  pub read : IsRead b.session.now b.dir.now
  pub journal : AreJournal (against b) [] (journal_texts (against b) (texts_in b)) b.updates.now
  pub own : AreOwn (against b).parts b.updates.now b.own.now
  pub long : HasAllParts (against b) (texts_in b)

-- ---- one line

-- the text is the line of the one fit reply, or of none
abbrev pub IsLookedAt : Checked → List Update → ℕ → List Answered → RequestLine → List ℕ → Option Placed → Type 0
IsLookedAt c updates client earlier asked text found =
    MatchOption found ((placed : Placed) → ¬ (IsReplyLine c updates client earlier asked text placed)) (IsReplyLine c updates client earlier asked text)

-- if the text is the line of a right reply, the line is due at the place of the reply, and one without a place at the
-- place that the lines before it have reached
abbrev pub IsDue : Checked → List Update → ℕ → List Answered → RequestLine → List ℕ → Client → Type 0
IsDue c updates number earlier asked text client =
    (placed : Placed) → IsReplyLine c updates number earlier asked text placed → client.due ≡ unwrap_or placed.at client.seen

-- the place is that of the line's text, if this is not below the places before it
abbrev pub IsDueAt : List (List ℕ) → ℕ → ℕ → ℕ → Type 0
IsDueAt texts line seen due =
    (at : Option ℕ) (rest : List ℕ) → IfSome at (λ n. n < 2 ^ 64) → IfSome at (λ n. seen ≤ n) → line < length texts
    → text_at texts line ≡ place_text at ++ 44 ∷ rest → due ≡ unwrap_or at seen

-- ---- a client

-- the client's first reply lines are right, and these answers determine the rest
pub record HasCome (c : Checked) (updates : List Update) (texts : List (List ℕ)) (number : ℕ) (client : Client) : Type 0 where
  pub first : client.first ≡ first_reply c number
  pub slots : client.slots ≡ c.slots number
  pub within : client.next ≤ length (lines_of c.parts number)
  pub replies : List Placed
  pub right : AreReplies c updates number [] (take client.next (lines_of c.parts number)) (take client.next (reply_texts c texts number)) replies
  pub seen : HasSeen (answered_lines (take client.next (lines_of c.parts number)) replies) client.seen
  pub below : client.seen ≤ length updates
  pub last : client.last ≡ last_listing (answered_lines (take client.next (lines_of c.parts number)) replies)
  pub pages : ForSome client.last (HasPageInRange c.dir)
  pub used : (asked : RequestLine) → slice_get (lines_of c.parts number) client.next ≡ Some asked → client.used ≡ used_before updates number asked
  pub due : (asked : RequestLine) → slice_get (lines_of c.parts number) client.next ≡ Some asked
      → IsDue c updates number (answered_lines (take client.next (lines_of c.parts number)) replies) asked (text_at (reply_texts c texts number) client.next) client

-- what the client was answered so far
abbrev pub answers_of : {c : Checked} {updates : List Update} {texts : List (List ℕ)} {number : ℕ} {client : Client} → HasCome c updates texts number client → List Answered
answers_of {c} {updates} {texts} {number} {client} come = answered_lines (take client.next (lines_of c.parts number)) come.replies

-- a client's line that is not done is due at this place or later
pub record IsReadyAt (c : Checked) (updates : List Update) (texts : List (List ℕ)) (number place : ℕ) (client : Client) : Type 0 where
  pub come : HasCome c updates texts number client
  pub later : client.next < length (lines_of c.parts number) → place ≤ client.due

-- this holds for each client
pub record AreReady (c : Checked) (updates : List Update) (texts : List (List ℕ)) (place : ℕ) (clients : List Client) : Type 0 where
  pub count : length clients ≡ length c.parts
  pub each : (number : ℕ) (client : Client) → slice_get clients number ≡ Some client → IsReadyAt c updates texts number place client

abbrev pub HasComeOn : Basis → ℕ → Client → Type 0
HasComeOn b = HasCome (against b) b.updates.now (texts_in b)

abbrev pub IsReadyOn : Basis → ℕ → ℕ → Client → Type 0
IsReadyOn b = IsReadyAt (against b) b.updates.now (texts_in b)

-- the request that the client's next line answers
abbrev pub IsAsked : Basis → ℕ → Client → RequestLine → Type 0
IsAsked b number client asked = slice_get (lines_of (against b).parts number) client.next ≡ Some asked

-- what is found of the client's next line
abbrev pub IsNextFound : Basis → ℕ → Client → Option Placed → Type 0
IsNextFound b number client found =
    (asked : RequestLine) → (come : HasComeOn b number client) → IsAsked b number client asked
    → IsLookedAt (against b) b.updates.now number (answers_of come) asked (text_at (reply_texts (against b) (texts_in b) number) client.next) found

-- the client after one more right line
pub record GoesOn (texts : List (List ℕ)) (asked : Request) (own : Option ℕ) (placed : Placed) (old new : Client) : Type 0 where
  pub first : new.first ≡ old.first
  pub slots : new.slots ≡ old.slots
  pub next : new.next ≡ old.next + 1
  pub seen : new.seen ≡ unwrap_or placed.at old.seen
  pub used : new.used ≡ old.used + (if is_some own then 1 else 0)
  pub last : new.last ≡ (if is_listing asked then Some placed.reply else old.last)
  pub due : IsDueAt texts (new.first + new.next) new.seen new.due
  pub least : new.seen ≤ new.due

-- how often, at most, a client's lines are still looked at at this place: a wrong line once
abbrev pub looks_left : ℕ → ℕ → Client → ℕ
looks_left lines place client = 2 * (lines - client.next) + (if client.due == place then 1 else 0)

-- ---- all lines

-- the clients before this one are ready for the next place, and the others for this one
pub record AreReadyUpTo (b : Basis) (place number : ℕ) (clients : List Client) : Type 0 where
  pub count : length clients ≡ length (against b).parts
  pub done : (k : ℕ) (client : Client) → k < number → slice_get clients k ≡ Some client → IsReadyOn b k (place + 1) client
  pub left : (k : ℕ) (client : Client) → number ≤ k → slice_get clients k ≡ Some client → IsReadyOn b k place client

abbrev pub AreReadyOn : Basis → ℕ → List Client → Type 0
AreReadyOn b = AreReady (against b) b.updates.now (texts_in b)

-- the first reply line that is wrong, counted from 0, or that all are right
abbrev pub IsFirstWrong : Checked → List Update → List (List ℕ) → Option ℕ → Type 0
IsFirstWrong c updates texts found =
    MatchOption found ((replies : List (List Placed)) × AreAllReplies c updates texts (length c.parts) replies) (IsWrongReply c updates texts)
