-- A run that was begun can be ended: the other requests are answered after all updates, one after the other.
use Rattle.std.specs.Prelude.{◌≡◌, ℕ, ◌<◌, List, length, All}
use Rattle.answer_text.specs.Lines.{session_text}
use Rattle.answer_text.specs.Shown.{reply_lines}
use Rattle.request_lines.specs.SessionLaws.{IsAskable, Rise}
use Rattle.bucket_terms.specs.PassView.{Extends}
use Rattle.bucket_terms.specs.declared.record.Record.{Record}
use Rattle.bucket_terms.specs.LegalRun.{RequestLine, Run, IsLegal, lines_of, replies_of}

-- each client's lines begin with its first ones
pub record AreFirst (first parts : List (List RequestLine)) : Type 0 where
  pub clients : length parts ≡ length first
  pub each : (client : ℕ) → client < length parts → Extends (lines_of first client) (lines_of parts client)

-- each client's lines rise, and the names that they speak of are in the directory
pub record CanBeAnswered (dir : List (List ℕ)) (parts : List (List RequestLine)) : Type 0 where
  pub rising : (client : ℕ) → client < length parts → Rise (lines_of parts client)
  pub askable : (client : ℕ) → client < length parts → All (IsAskable dir) (lines_of parts client)

-- the updates of the whole run begin with those of the begun one, and so do the replies of each client
pub record GoesOn (begun whole : Run) : Type 0 where
  pub updates : Extends begun.updates whole.updates
  pub clients : length whole.replies ≡ length begun.replies
  pub replies : (client : ℕ) → client < length begun.replies → Extends (replies_of begun client) (replies_of whole client)

-- a legal run of the first requests of each client is the beginning of a legal run of all of them
abbrev pub BegunRunLaw : Type 0
BegunRunLaw =
    (dir : List (List ℕ)) (first parts : List (List RequestLine)) (slots : ℕ → ℕ) (begun : Run) → AreFirst first parts → CanBeAnswered dir parts
    → IsLegal dir first slots begun → (whole : Run) × (IsLegal dir parts slots whole × GoesOn begun whole)

-- the lines of the first client's replies so far are a start of the text of the whole run
abbrev pub BegunTextLaw : Type 0
BegunTextLaw =
    (dir : List (List ℕ)) (records : List Record) (begun whole : Run) → 0 < length begun.replies → GoesOn begun whole
    → Extends (reply_lines dir records (replies_of begun 0)) (session_text dir records whole)
