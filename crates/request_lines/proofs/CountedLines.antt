-- The lines of an input with what a reader counts of those before each, and the session by these lines.
use Rattle.std.proofs.Common.{◌≡◌, ℕ, ◌+◌, List, [], ◌∷◌, length, map, drop, Option, Some, None, Result, Ok, Err}
use Rattle.std.specs.Prelude.{◌==◌, slice_get, if◌then◌else◌}
use Rattle.std.specs.List.{slice_split, filter_map}
use Rattle.bucket_terms.specs.declared.record.Record.{Record}
use Rattle.line_grammar.specs.declared.cause.Cause.{Cause}
use Rattle.line_grammar.specs.declared.command.Command.{Command}
use Rattle.request_lines.specs.declared.counts.Counts.{Counts}
use Rattle.request_lines.specs.declared.session.Asked.{Asked}
use Rattle.request_lines.specs.declared.session.ClientPart.{ClientPart}
use Rattle.request_lines.specs.declared.session.Session.{Session}
use Rattle.request_lines.specs.declared.session_error.InputError.{InputError}
use Rattle.request_lines.specs.declared.session_error.SessionError.{SessionError}
use Rattle.request_lines.specs.declared.session_error.SessionError.TheVariants as errors
use Rattle.request_lines.specs.InputParts.{texts_of, error_at, asked_at, begins_client}
use Rattle.line_grammar.specs.Line.{reading_of}
use Rattle.request_lines.specs.Input.{name_by, record_by}
use Rattle.request_lines.specs.Counting.{none_counted, counted_with, cause_by_counts, request_by_counts}

-- a line that is not empty: its number, counted from 1 over all lines, what it says or its own cause, and
-- what the lines before it have asked
pub record Line : Type 0 where
  pub number : ℕ
  pub reading : Result Command Cause
  pub before : Counts

-- the lines that are not empty, of these texts, of which the first has this number
unfoldable pub lines_from : ℕ → Counts → List (List ℕ) → List Line
lines_from number before [] = []
lines_from number before (text ∷ texts) =
    if length text == 0 then lines_from (number + 1) before texts
    else record { number = number; reading = reading_of text; before = before }
    ∷ lines_from (number + 1) (counted_with before (reading_of text)) texts

unfoldable pub input_lines : List ℕ → List Line
input_lines bytes = lines_from 1 none_counted (texts_of bytes)

-- ---- refusal

abbrev pub error_of : Line → Option InputError
error_of line = error_at line.number (cause_by_counts line.before line.reading)

-- the refusal of an input: the first line that has a cause, with its first cause
unfoldable pub refusal_of : List ℕ → Option InputError
refusal_of bytes = slice_get (filter_map error_of (input_lines bytes)) 0

-- a session comes exactly where no line has a cause, and else the refusal, unless memory ran out
abbrev pub IsRefused : List ℕ → Result Session SessionError → Type 0
IsRefused bytes (Ok session) = refusal_of bytes ≡ None
IsRefused bytes (Err (errors.Input e)) = refusal_of bytes ≡ Some e
IsRefused bytes (Err errors.NoMemory) = Unit {0}

-- ---- the session

abbrev pub asked_of : Line → Option Asked
asked_of line = asked_at line.number (request_by_counts line.before line.reading)

-- the part of a client whose lines these are
abbrev pub part_of : List Line → ClientPart
part_of lines = record { requests = filter_map asked_of lines }

-- the parts of the clients: the lines are cut at each line that begins one. No client has the lines
-- before the first of these.
unfoldable pub parts_of : List Line → List ClientPart
parts_of lines = map part_of (drop 1 (slice_split (λ (l : Line). begins_client l.reading) lines))

unfoldable pub names_of : List Line → List (List ℕ)
names_of lines = filter_map (λ (l : Line). name_by l.reading) lines

unfoldable pub records_of : List Line → List Record
records_of lines = filter_map (λ (l : Line). record_by l.reading) lines

-- the session is that of the input
pub record IsSessionOf (bytes : List ℕ) (session : Session) : Type 0 where
  pub faultless : refusal_of bytes ≡ None
  pub clients : session.clients ≡ parts_of (input_lines bytes)
  pub names : session.names ≡ names_of (input_lines bytes)
  pub records : session.records ≡ records_of (input_lines bytes)
