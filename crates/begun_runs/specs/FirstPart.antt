-- Helper: the headline does not rest on this file.
-- What a pass knows after the first requests of the only client.
use Rattle.std.specs.Prelude.{◌≡◌, ℕ, ◌*◌, ◌≤◌, List, [], ◌∷◌, take, All}
use Rattle.key_map.specs.declared.update.Update.{Update}
use Rattle.request_lines.specs.SessionLaws.{IsAskable, Rise}
use Rattle.bucket_terms.specs.PassView.{PassView}
use Rattle.bucket_terms.specs.declared.reply.Placed.{Placed}
use Rattle.bucket_terms.specs.LegalRun.{RequestLine, Run, IsLegal}
use Rattle.client_run.specs.ClientRun.{RanClient}
use Rattle.begun_runs.specs.Begun.{GoesOn}

-- the first lines were answered over the pass of number 0, which had made no update and owned this many node slots, and
-- four entry slots for each; nobody else has made an update
pub record RanFirst (dir : List (List ℕ)) (lines : List RequestLine) (slots : ℕ) (old new : PassView) (replies : List Placed) : Type 0 where
  pub ran : RanClient dir lines old new replies
  pub number : old.number ≡ 0
  pub fresh : old.mine ≡ []
  pub nodes : slots ≤ old.nodes
  pub entries : 4 * slots ≤ old.entries
  pub alone : All (λ (u : Update). u.client ≡ 0) new.seen

-- what the pass knows and the replies are the beginning of a legal run of all lines
abbrev pub FirstPartLaw : Type 0
FirstPartLaw =
    (dir : List (List ℕ)) (lines : List RequestLine) (count : ℕ) (slots : ℕ → ℕ) (old new : PassView) (replies : List Placed) → Rise lines → All (IsAskable dir) lines
    → RanFirst dir (take count lines) (slots 0) old new replies
    → (whole : Run) × (IsLegal dir (lines ∷ []) slots whole × GoesOn (record { updates = new.seen; replies = replies ∷ [] }) whole)
