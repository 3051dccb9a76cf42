-- Helper: the headline does not rest on this file.
-- A client's requests that are answered in parts: what is kept between two parts, and what a part has done.
use Rattle.std.specs.Prelude.{◌≡◌, ℕ, ◌+◌, ◌-◌, ◌≤◌, min, List, [], ◌++◌, length, take, drop, All, Option, Some, None, slice_get}
use Rattle.std.specs.Option.{ForSome, option_map}
use Rattle.bucket_terms.specs.declared.reply.Reply.{Reply}
use Rattle.bucket_terms.specs.declared.reply.Placed.{Placed}
use Rattle.bucket_terms.specs.LegalRun.{RequestLine, Answered, answered_lines, last_listing}
use Rattle.bucket_terms.specs.PassView.{PassView, KnowsOwn}
use Rattle.bucket_terms.specs.RunParts.{updates_in}
use Rattle.request_lines.specs.SessionLaws.{IsAskable, Rise}
use Rattle.client_run.specs.ClientRun.{AnswersInTurn, IsLaterLine, RanClient}
use Rattle.client_run.specs.Listing.{HasPageInRange}

-- the directory, how many requests are answered, and the reply of the last LIST or NEXT
pub record Kept : Type 0 where
  pub dir : List (List ℕ)
  pub done : ℕ
  pub last : Option Reply

-- the reply of the last listing: that at this place, or else that of earlier parts
abbrev pub last_by : List Placed → Option ℕ → Option Reply → Option Reply
last_by replies None before = before
last_by replies (Some place) before = option_map (λ (p : Placed). p.reply) (slice_get replies place)

-- the lines can be answered over a pass that knows this, where the last listing had this reply
pub record CanAnswer (dir : List (List ℕ)) (last : Option Reply) (lines : List RequestLine) (pass : PassView) : Type 0 where
  pub closed : pass.opened ≡ None
  pub askable : All (IsAskable dir) lines
  pub calls : updates_in lines ≤ pass.left
  pub rising : Rise lines
  pub later : All (λ (l : RequestLine). IsLaterLine pass l.line) lines
  pub in_range : ForSome last (HasPageInRange dir)

-- those of the lines that are left can be answered
pub record CanGoOn (kept : Kept) (lines : List RequestLine) (pass : PassView) : Type 0 where
  pub within : kept.done ≤ length lines
  pub can : CanAnswer kept.dir kept.last (drop kept.done lines) pass

-- at most so many of the lines that were left were answered in turn, and as many as there were; the rest can be
-- answered next
pub record WentOn (old new : Kept) (lines : List RequestLine) (most : ℕ) (before now : PassView) (replies : List Placed) : Type 0 where
  pub knew : KnowsOwn before
  pub dir : new.dir ≡ old.dir
  pub done : new.done ≡ min (old.done + most) (length lines)
  pub in_turn : (earlier : List Answered) → last_listing earlier ≡ old.last
      → AnswersInTurn old.dir earlier before now (take (new.done - old.done) (drop old.done lines)) replies
  pub last : (earlier : List Answered) → last_listing earlier ≡ old.last
      → last_listing (earlier ++ answered_lines (take (new.done - old.done) (drop old.done lines)) replies) ≡ new.last
  pub in_range : All (λ (p : Placed). HasPageInRange old.dir p.reply) replies
  pub next : CanGoOn new lines now

-- as many of the first lines as is kept were answered over a pass that knew `old` before and knows `now`
pub record RanSoFar (kept : Kept) (lines : List RequestLine) (old now : PassView) (replies : List Placed) : Type 0 where
  pub within : kept.done ≤ length lines
  pub ran : RanClient kept.dir (take kept.done lines) old now replies
  pub last : last_listing (answered_lines (take kept.done lines) replies) ≡ kept.last

-- before the first part none is answered
abbrev pub BeforePartsLaw : Type 0
BeforePartsLaw =
    (dir : List (List ℕ)) (lines : List RequestLine) (old : PassView) → KnowsOwn old → old.opened ≡ None
    → RanSoFar (record { dir = dir; done = 0; last = None }) lines old old []

-- parts that follow one another are a run of their lines
abbrev pub NextPartLaw : Type 0
NextPartLaw =
    (kept next : Kept) (lines : List RequestLine) (most : ℕ) (old mid now : PassView) (replies more : List Placed) → Rise lines
    → All (λ (l : RequestLine). IsLaterLine old l.line) lines → RanSoFar kept lines old mid replies → WentOn kept next lines most mid now more
    → RanSoFar next lines old now (replies ++ more)
