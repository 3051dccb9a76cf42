-- Helper: the headline does not rest on this file.
-- What running one client over a pass has done, by what the pass knows before and after.
use Rattle.std.specs.Prelude.{◌≡◌, ℕ, ◌+◌, ◌*◌, ◌<◌, ◌≤◌, ⊤, ◌==◌, ◌&&◌, Bool, true, false, not, if◌then◌else◌, List, [], ◌∷◌, ◌++◌, length, count_by, All, Any, Option, Some, None, MatchOption, slice_get}
use Rattle.key_map.specs.declared.update.Update.{Update}
use Rattle.bucket_terms.specs.declared.request.Request.{Request}
use Rattle.bucket_terms.specs.declared.request.Request.TheVariants.{PutNew}
use Rattle.bucket_terms.specs.declared.reply.Reply.{Reply}
use Rattle.bucket_terms.specs.declared.reply.Reply.TheVariants.{Put, Exists, Deleted, Found, Missing, Listed, ListedV1, NoSlot}
use Rattle.bucket_terms.specs.declared.reply.Placed.{Placed}
use Rattle.bucket_terms.specs.PassView.{PassView, Continues, Extends, KnowsOwn, RoseBy, RoseByOne, IsShort}
use Rattle.client_run.specs.Listing.{HasPageInRange}
use Rattle.bucket_terms.specs.LegalRun.{RequestLine, Setting, Answered, AreAnswered, IsRight, IsMadeBy, answered_lines, last_listing, update_at, is_update}
use Rattle.bucket_terms.specs.RunParts.{is_earlier_of}

-- the line is later than those of the pass's updates so far
abbrev pub IsLaterLine : PassView → ℕ → Type 0
IsLaterLine pass line = All (λ (u : Update). u.client ≡ pass.number → u.line < line) pass.seen

-- the setting in which the pass's client is answered
abbrev pub setting : List (List ℕ) → PassView → ℕ → Setting
setting dir pass slots = record { dir = dir; updates = pass.seen; client = pass.number; slots = slots }

-- a request line with its reply
abbrev pub answered : ℕ → Request → Placed → Answered
answered line request placed = record { asked = record { line = line; request = request }; placed = placed }

-- whether the update is of this client and line
abbrev pub is_of : Setting → ℕ → Option Update → Bool
is_of s line None = false
is_of s line (Some u) = (u.client == s.client) && (u.line == line)

-- whether the answered line has its own update at its place
abbrev pub has_own : Setting → ℕ → Option ℕ → Bool
has_own s line None = false
has_own s line (Some at) = is_of s line (update_at s at)

-- whether the answer is that of a snapshot: a head, a listing, a put that was not made, or a delete that found no key
abbrev pub is_looked_up : Setting → Answered → Bool
is_looked_up s a = by_reply a.placed.reply
  where
    by_reply : Reply → Bool
    by_reply Exists = true
    by_reply (Found val) = true
    by_reply Missing = true
    by_reply (Listed query page) = true
    by_reply (ListedV1 query page) = true
    by_reply Deleted = not (has_own s a.asked.line a.placed.at)
    by_reply reply = false

-- how often the answer has looked: a head and a listing once, a put that was not made and a delete that found no key at
-- least once, a PUT and a refusal not at all. A PUTNEW and a delete that were made may have looked before.
abbrev pub HasLooked : Setting → Answered → ℕ → ℕ → Type 0
HasLooked s a old new = by_reply a.placed.reply
  where
    by_request : Request → Type 0
    by_request (PutNew name val) = RoseBy 0 old new
    by_request request = new ≡ old

    by_reply : Reply → Type 0
    by_reply (Put was) = by_request a.asked.request
    by_reply Exists = RoseBy 1 old new
    by_reply (Found val) = RoseByOne old new
    by_reply Missing = RoseByOne old new
    by_reply (Listed query page) = RoseByOne old new
    by_reply (ListedV1 query page) = RoseByOne old new
    by_reply Deleted = RoseBy (if has_own s a.asked.line a.placed.at then 0 else 1) old new
    by_reply reply = new ≡ old

-- after the last answer: a refusal for want of slots leaves the pass without them, and the place of an answer
-- of a snapshot is the number that was found last
pub record Ended (s : Setting) (pass : PassView) (a : Answered) : Type 0 where
  pub refused : a.placed.reply ≡ NoSlot → IsShort pass
  pub looked_up : is_looked_up s a ≡ true → a.placed.at ≡ Some pass.found

-- one request was answered over a pass that knew `old` before and knows `new` now; `last` is the reply of the
-- client's last listing
pub record Answers (dir : List (List ℕ)) (old new : PassView) (last : Option Reply) (a : Answered) : Type 0 where
  pub continues : Continues old new
  pub closed : new.opened ≡ None
  pub client : a.placed.client ≡ old.number
  pub line : a.placed.line ≡ a.asked.line
  -- its place is one that the pass learned in this call, or the last one before it
  pub from : MatchOption a.placed.at ⊤ (λ at. length old.seen ≤ at)
  pub upto : MatchOption a.placed.at ⊤ (λ at. at ≤ length new.seen)
  -- it is right for a client whose slots are used up if the pass lacks some
  pub right : (slots : ℕ) → (IsShort old → slots ≤ count_by (is_earlier_of (setting dir old slots) a.asked.line) old.seen)
      → IsRight (setting dir new slots) last a.asked a.placed.at a.placed.reply
  -- an own update that is new is the one of this line
  pub made : (i : ℕ) (u : Update) → length old.seen ≤ i → slice_get new.seen i ≡ Some u → u.client ≡ old.number → IsMadeBy dir u (i + 1) a
  -- each own update takes at most a node slot, four entry slots and a call
  pub nodes : old.nodes + length old.mine ≤ new.nodes + length new.mine
  pub entries : old.entries + 4 * length old.mine ≤ new.entries + 4 * length new.mine
  pub left : new.left + length new.mine ≡ old.left + length old.mine
  pub updates : length new.mine ≤ length old.mine + (if is_update a.asked.request then 1 else 0)
  pub looks : HasLooked (setting dir new 0) a old.looks new.looks
  pub ended : Ended (setting dir new 0) new a

-- the requests were answered in turn, after these earlier answers: each over what the pass knew after the one
-- before it
abbrev pub AnswersInTurn : List (List ℕ) → List Answered → PassView → PassView → List RequestLine → List Placed → Type 0
AnswersInTurn dir earlier old new [] [] = new ≡ old
AnswersInTurn dir earlier old new (l ∷ lines) (p ∷ replies) =
    (between : PassView) × Answers dir old between (last_listing earlier) (record { asked = l; placed = p })
    × AnswersInTurn dir (earlier ++ record { asked = l; placed = p } ∷ []) between new lines replies
AnswersInTurn dir earlier old new lines replies = ⊥

-- the client's requests were answered, in order, over a pass that knew `old` before and knows `new` now
pub record RanClient (dir : List (List ℕ)) (lines : List RequestLine) (old new : PassView) (replies : List Placed) : Type 0 where
  pub knew : KnowsOwn old
  pub continues : Continues old new
  pub closed : new.opened ≡ None
  -- a refusal for want of slots comes only after as many updates of this call as there were slots for
  pub answered : (n : ℕ) → n ≤ old.nodes → 4 * n ≤ old.entries → AreAnswered (setting dir new (length old.mine + n)) [] lines replies
  -- an own update that is new is that of one of these lines
  pub made : (i : ℕ) (u : Update) → length old.seen ≤ i → slice_get new.seen i ≡ Some u → u.client ≡ old.number
      → Any (IsMadeBy dir u (i + 1)) (answered_lines lines replies)
  -- no place is below what the pass knew
  pub places : All (λ (p : Placed). MatchOption p.at ⊤ (λ at. length old.seen ≤ at)) replies
  pub looks : RoseBy (count_by (is_looked_up (setting dir new 0)) (answered_lines lines replies)) old.looks new.looks
  -- each request had its own turn, and only it looked in that turn
  pub in_turn : AnswersInTurn dir [] old new lines replies
  pub in_range : All (λ (p : Placed). HasPageInRange dir p.reply) replies
  pub ended : (front : List Answered) (a : Answered) → answered_lines lines replies ≡ front ++ a ∷ [] → Ended (setting dir new 0) new a

-- after out of memory: updates may have been made, the pass still knows what it knew, and no snapshot is open
pub record Stopped (old new : PassView) : Type 0 where
  pub closed : new.opened ≡ None
  pub number : new.number ≡ old.number
  pub seen : Extends old.seen new.seen
  pub looks : old.looks ≤ new.looks
