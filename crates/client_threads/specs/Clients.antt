-- Helper: the headline does not rest on this file.
-- The run of several clients, each over a pass of its own, and the one history of all of them.
use Rattle.std.specs.Prelude.{◌≡◌, ℕ, ◌*◌, ◌<◌, ◌≤◌, List, [], length, Option, Some, slice_get}
use Rattle.key_map.specs.declared.update.Update.{Update}
use Rattle.key_map.specs.History.{own_places}
use Rattle.bucket_terms.specs.declared.reply.Placed.{Placed}
use Rattle.bucket_terms.specs.PassView.{PassView, Extends}
use Rattle.bucket_terms.specs.LegalRun.{RequestLine, Run, lines_of, replies_of, slots_under}
use Rattle.request_lines.specs.declared.session.ClientPart.{ClientPart}
use Rattle.client_run.specs.ClientRun.{RanClient}
use Rattle.client_threads.specs.Runs.{parts_of}

-- one client's lines were answered over the pass of this number, which had made no update before and owned at
-- least this many node slots, and four entry slots for each. The history begins with what the pass knows at the
-- end, and has no updates of this number other than the pass's own.
pub record RanWithin (dir : List (List ℕ)) (history : List Update) (client slots : ℕ) (lines : List RequestLine) (replies : List Placed) : Type 0 where
  pub old : PassView
  pub new : PassView
  pub ran : RanClient dir lines old new replies
  pub number : old.number ≡ client
  pub fresh : old.mine ≡ []
  pub nodes : slots ≤ old.nodes
  pub entries : 4 * slots ≤ old.entries
  pub seen : Extends new.seen history
  pub own : new.mine ≡ own_places client history

-- each client's lines were answered so within the run's history, in which each update is one of a client
pub record RanEach (dir : List (List ℕ)) (parts : List (List RequestLine)) (slots : ℕ → ℕ) (run : Run) : Type 0 where
  pub clients : length run.replies ≡ length parts
  pub each : (c : ℕ) → c < length parts → RanWithin dir run.updates c (slots c) (lines_of parts c) (replies_of run c)
  pub by_client : (i : ℕ) (u : Update) → slice_get run.updates i ≡ Some u → u.client < length parts

-- the clients of a session were run so, each with the slots that are named or that its lines ask for, with these
-- updates and replies as the result
abbrev pub RanSession : List (List ℕ) → Option ℕ → List ClientPart → List Update → List (List Placed) → Type 0
RanSession dir named clients updates replies =
    RanEach dir (parts_of clients) (slots_under named (parts_of clients)) (record { updates = updates; replies = replies })
