-- Helper: the headline does not rest on this file.
-- The parts of an input by which its session is read, and the limits as numbers of their own.
use Rattle.std.specs.Prelude.{ℕ, ◌==◌, not, Bool, false, List, [], map, drop, Option, Some, None, Result, count_by}
use Rattle.std.specs.Borrow.{Bor}
use Rattle.std.specs.List.{slice_split, filter_map}
use Rattle.std.specs.Option.{option_map, option_map_or, option_to_list}
use Rattle.std.specs.Result.{result_ok}
use Rattle.std.specs.Str.Lines.{strip_carriage_return}
use Rattle.bucket_terms.specs.declared.record.Record.{Record}
use Rattle.bucket_terms.specs.declared.request.Request.{Request}
use Rattle.line_grammar.specs.declared.cause.Cause.{Cause}
use Rattle.line_grammar.specs.declared.command.Command.{Command}
use Rattle.request_lines.specs.declared.session.Asked.{Asked}
use Rattle.request_lines.specs.declared.session.ClientPart.{ClientPart}
use Rattle.request_lines.specs.declared.session_error.InputError.{InputError}
use Rattle.request_lines.specs.Input.{Line, asked_of, is_client, is_put, name_by, record_by}

-- the texts of the lines: the input is cut at each line feed, and one carriage return at the end of a line is dropped
abbrev pub texts_of : List ℕ → List (List ℕ)
texts_of bytes = map strip_carriage_return (slice_split (λ b. b == 10) bytes)

-- the lines that are left: None after the last one
abbrev pub texts_left : Option (Bor (List ℕ)) → List (List ℕ)
texts_left None = []
texts_left (Some bytes) = texts_of bytes.now

-- ---- limits

-- the most clients of a session
abbrev pub most_clients : ℕ
most_clients = 32

-- the most request lines of a session, of all clients together
abbrev pub most_requests : ℕ
most_requests = 200000

-- the most entries that the LIST, LISTV1 and NEXT lines of a session can be answered, together
abbrev pub most_listed : ℕ
most_listed = 4000000

-- how many of these lines begin a client, how many ask something, and how many of these are PUT or PUTNEW lines
abbrev pub clients_in : List Command → ℕ
clients_in commands = count_by is_client commands

abbrev pub requests_in : List Command → ℕ
requests_in commands = count_by (λ command. not (is_client command)) commands

abbrev pub puts_in : List Command → ℕ
puts_in commands = count_by is_put commands

-- ---- the session

abbrev pub error_at : ℕ → Option Cause → Option InputError
error_at number cause = option_map (λ c. record { line = number; cause = c }) cause

abbrev pub asked_at : ℕ → Option Request → Option Asked
asked_at number request = option_map (λ r. record { line = number; request = r }) request

-- what a line says, where it can be read
abbrev pub said : Result Command Cause → List Command
said reading = option_to_list (result_ok reading)

-- a line begins a client
abbrev pub begins_client : Result Command Cause → Bool
begins_client reading = option_map_or is_client (result_ok reading) false

-- the part of a client whose lines these are
abbrev pub part_of : List Line → ClientPart
part_of lines = record { requests = filter_map asked_of lines }

-- the parts of the clients
unfoldable pub parts_of : List Line → List ClientPart
parts_of lines = map part_of (drop 1 (slice_split (λ (l : Line). begins_client l.reading) lines))

unfoldable pub names_of : List Line → List (List ℕ)
names_of lines = filter_map (λ (l : Line). name_by l.reading) lines

unfoldable pub records_of : List Line → List Record
records_of lines = filter_map (λ (l : Line). record_by l.reading) lines
