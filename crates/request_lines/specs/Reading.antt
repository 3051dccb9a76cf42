-- Helper: the headline does not rest on this file.
-- How far a reader has come: what it keeps of the lines so far.
use Rattle.std.specs.Prelude.{◌≡◌, ◌⊎◌, ℕ, ◌+◌, ◌≤◌, ◌==◌, Bool, true, false, List, [], ◌∷◌, ◌++◌, length, Option, Some, None, Result, Ok, Err, if◌then◌else◌}
use Rattle.std.specs.Option.{option_to_list}
use Rattle.bucket_terms.specs.declared.record.Record.{Record}
use Rattle.line_grammar.specs.declared.cause.Cause.{Cause}
use Rattle.line_grammar.specs.declared.command.Command.{Command}
use Rattle.request_lines.specs.declared.counts.Counts.{Counts}
use Rattle.line_grammar.specs.declared.line_error.LineError.{LineError}
use Rattle.line_grammar.specs.declared.line_error.LineError.TheVariants as faults
use Rattle.request_lines.specs.declared.reader.Reader.{Reader}
use Rattle.request_lines.specs.declared.session.Asked.{Asked}
use Rattle.request_lines.specs.declared.session.ClientPart.{ClientPart}
use Rattle.request_lines.specs.declared.session_error.InputError.{InputError}
use Rattle.request_lines.specs.declared.session_error.SessionError.{SessionError}
use Rattle.request_lines.specs.declared.session_error.SessionError.TheVariants as errors
use Rattle.line_grammar.specs.Line.{reading_of}
use Rattle.request_lines.specs.Input.{most_input_bytes, name_by, record_by}
use Rattle.request_lines.specs.Counting.{none_counted, counted_with, cause_by_counts, request_by_counts}
use Rattle.request_lines.specs.InputParts.{error_at, asked_at, begins_client, texts_of}

-- what the lines so far have asked: how much, the parts of the clients that have ended, what the last client
-- has asked, and the names and records
pub record Progress : Type 0 where
  pub counts : Counts
  pub ended : List ClientPart
  pub current : List Asked
  pub names : List (List ℕ)
  pub records : List Record

abbrev pub progress : Reader → Progress
progress reader = record { counts = reader.counts; ended = reader.ended.items; current = reader.current; names = reader.names; records = reader.records.items }

-- before the first line
abbrev pub no_progress : Progress
no_progress = record { counts = none_counted; ended = []; current = []; names = []; records = [] }

-- the parts of all clients, of which the last has ended too
abbrev pub all_ended : Progress → List ClientPart
all_ended p = if p.counts.clients == 0 then p.ended else p.ended ++ record { requests = p.current } ∷ []

-- with one more line. A line that begins a client ends the one before it.
abbrev pub ended_by : Bool → Progress → List ClientPart
ended_by true p = all_ended p
ended_by false p = p.ended

abbrev pub current_by : Bool → Progress → Option Asked → List Asked
current_by true p asked = []
current_by false p asked = p.current ++ option_to_list asked

unfoldable pub kept : Progress → ℕ → Result Command Cause → Progress
kept p number reading = record {
  counts = counted_with p.counts reading;
  ended = ended_by (begins_client reading) p;
  current = current_by (begins_client reading) p (asked_at number (request_by_counts p.counts reading));
  names = p.names ++ option_to_list (name_by reading);
  records = p.records ++ option_to_list (record_by reading);
}

-- the same for a text, which may be empty
unfoldable pub taken : Progress → ℕ → List ℕ → Progress
taken p number text = if length text == 0 then p else kept p number (reading_of text)

unfoldable pub error_of_text : Progress → ℕ → List ℕ → Option InputError
error_of_text p number text = if length text == 0 then None else error_at number (cause_by_counts p.counts (reading_of text))

-- the error of a session whose line of this number is not read
abbrev pub session_error : ℕ → LineError → SessionError
session_error number (faults.Faulty cause) = errors.Input (record { line = number; cause = cause })
session_error number faults.NoMemory = errors.NoMemory

-- the line was taken, or it has this cause
abbrev pub Takes : Progress → ℕ → List ℕ → Progress → Result (Unit {0}) SessionError → Type 0
Takes p number text after (Ok done) = (error_of_text p number text ≡ None) × (after ≡ taken p number text)
Takes p number text after (Err (errors.Input e)) = error_of_text p number text ≡ Some e
Takes p number text after (Err errors.NoMemory) = Unit {0}

-- the same of a line that is not empty, and says this or has this cause of its own
abbrev pub KeepsReading : Progress → ℕ → Result Command Cause → Progress → Result (Unit {0}) LineError → Type 0
KeepsReading p number reading after (Ok done) = (cause_by_counts p.counts reading ≡ None) × (after ≡ kept p number reading)
KeepsReading p number reading after (Err (faults.Faulty cause)) = cause_by_counts p.counts reading ≡ Some cause
KeepsReading p number reading after (Err faults.NoMemory) = Unit {0}

-- these lines were taken in turn, of which the first has this number
abbrev pub Reaches : Progress → ℕ → List (List ℕ) → Progress → Type 0
Reaches p number [] after = after ≡ p
Reaches p number (text ∷ texts) after = (error_of_text p number text ≡ None) × Reaches (taken p number text) (number + 1) texts after

-- the first of these lines that has a cause has this one
abbrev pub Meets : Progress → ℕ → List (List ℕ) → InputError → Type 0
Meets p number [] e = ⊥
Meets p number (text ∷ texts) e = (error_of_text p number text ≡ Some e) ⊎ ((error_of_text p number text ≡ None) × Meets (taken p number text) (number + 1) texts e)

-- the lines were taken, which have so many before them and as many with them as is answered; or one has this cause
abbrev pub TakesAll : Progress → ℕ → List (List ℕ) → Progress → Result ℕ SessionError → Type 0
TakesAll p before texts after (Ok number) = (number ≡ before + length texts) × Reaches p (before + 1) texts after
TakesAll p before texts after (Err (errors.Input e)) = Meets p (before + 1) texts e
TakesAll p before texts after (Err errors.NoMemory) = Unit {0}

-- all lines of the input were taken
pub record HasTaken (bytes : List ℕ) (after : Progress) : Type 0 where
  pub small : length bytes ≤ most_input_bytes
  pub reached : Reaches no_progress 1 (texts_of bytes) after
