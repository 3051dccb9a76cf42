-- Helper: the headline does not rest on this file.
-- The parts of a run's text, and the members of a summary and of a verdict.
use Rattle.std.specs.Prelude.{◌≡◌, ℕ, List, [], ◌∷◌, ◌++◌, All, true, false, codes, Option}
use Rattle.std.specs.List.{flat_map}
use Rattle.key_map.specs.declared.update.Update.{Update}
use Rattle.bucket_terms.specs.declared.record.Record.{Record}
use Rattle.bucket_terms.specs.declared.reply.Placed.{Placed}
use Rattle.bucket_terms.specs.declared.summary.Summary.{Summary}
use Rattle.serde_json.specs.Data.{Data, boolean}
use Rattle.answer_text.specs.InRange.{IsReplyOf}
use Rattle.answer_text.specs.Lines.{Member, always, object_of, whole, session_text}
use Rattle.answer_text.specs.Shown.{reply_lines}
use Rattle.replay_check.specs.declared.verdict.Verdict.{Verdict}
use Rattle.replay_check.specs.declared.verdict.Verdict.TheVariants.{Legal, Wrong}
use Rattle.run_text.specs.declared.pieces.Piece.{Piece}
use Rattle.run_text.specs.Pieces.{pieces_text, IsPieceOf}

-- the text of the run that has these updates and replies
abbrev pub text_of_run : List (List ℕ) → List Record → List Update → List (List Placed) → List ℕ
text_of_run dir records updates replies = session_text dir records (record { updates = updates; replies = replies })

-- the replies of each client, one client after another
abbrev pub all_reply_lines : List (List ℕ) → List Record → List (List Placed) → List ℕ
all_reply_lines dir records lists = flat_map (reply_lines dir records) lists

-- the replies of these clients come after the pieces
pub record AddsClients (old : List Piece) (lists : List (List Placed)) (new : List Piece) : Type 0 where
  pub text : (dir : List (List ℕ)) (records : List Record) → pieces_text dir records new ≡ pieces_text dir records old ++ all_reply_lines dir records lists
  pub in_range : (dir : List (List ℕ)) (records : List Record) → All (IsPieceOf dir records) old
      → All (All (λ (p : Placed). IsReplyOf dir records p.reply)) lists → All (IsPieceOf dir records) new

-- the members of a summary, in the byte order of their names
abbrev pub summary_members : Summary → List (Option Member)
summary_members summary =
    always (codes "Keys") (whole summary.keys)
    ∷ always (codes "Listed") (whole summary.listed)
    ∷ always (codes "Requests") (whole summary.requests)
    ∷ always (codes "Updates") (whole summary.updates)
    ∷ []

abbrev pub summary_data : Summary → Data
summary_data summary = object_of (summary_members summary)

-- and those of a verdict
abbrev pub verdict_members : Verdict → List (Option Member)
verdict_members Legal = always (codes "Legal") (boolean true) ∷ []
verdict_members (Wrong line) = always (codes "Legal") (boolean false) ∷ always (codes "Wrong") (whole line) ∷ []
