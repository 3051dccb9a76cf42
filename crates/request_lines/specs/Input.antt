-- The causes that a line has after the lines before it, with the limits; the session of a whole input, or its refusal.
use Rattle.std.specs.Prelude.{◌≡◌, ℕ, ◌+◌, ◌==◌, ◌&&◌, not, nat_lt, Bool, true, false, List, [], ◌∷◌, ◌++◌, length, map, drop, Option, Some, None, Result, Ok, Err, count_by, slice_get, if◌then◌else◌}
use Rattle.std.specs.{List.slice_split, List.filter_map, Option.option_map, Option.option_map_or, Option.option_to_list, Result.result_ok, Str.Lines.strip_carriage_return}
use Rattle.bucket_terms.specs.declared.{record.Record.Record, request.Request.Request}
use Rattle.bucket_terms.specs.declared.request.Request.TheVariants as asks
use Rattle.line_grammar.specs.declared.{cause.Cause.Cause, command.Command.Command, verb.PutWhen.PutWhen}
use Rattle.line_grammar.specs.declared.cause.Cause.TheVariants.{NoClient, TooManyClients, TooManyLines, TooManyEntries}
use Rattle.line_grammar.specs.declared.command.Command.TheVariants as says
use Rattle.line_grammar.specs.declared.verb.PutWhen.TheVariants.{Always, IfAbsent}
use Rattle.line_grammar.specs.Line.{reading_of}
use Rattle.request_lines.specs.declared.{session.Asked.Asked, session.Session.Session, session_error.InputError.InputError}

-- the most bytes of an input: 64 MiB
abbrev pub most_input_bytes : ℕ
most_input_bytes = 67108864

-- ---- limits

abbrev pub is_client : Command → Bool
is_client says.Client = true
is_client command = false

abbrev pub is_put : Command → Bool
is_put (says.Put when name fields) = true
is_put command = false

-- the entries that the pages of these lines can have, together. A LIST or LISTV1 line can have as many as its page, a
-- NEXT line as many as its client's last LIST line; `last` is that of the lines before these, or 0.
abbrev pub entries_behind : (last : ℕ) → List Command → ℕ
entries_behind last [] = 0
entries_behind last (says.List query ∷ commands) = query.max_keys + entries_behind query.max_keys commands
entries_behind last (says.ListV1 query ∷ commands) = query.max_keys + entries_behind last commands
entries_behind last (says.Next ∷ commands) = last + entries_behind last commands
entries_behind last (says.Client ∷ commands) = entries_behind 0 commands
entries_behind last (command ∷ commands) = entries_behind last commands

-- the first cause that the last of these lines has after the others
unfoldable pub limit_cause : List Command → Command → Option Cause
limit_cause commands last =
    if not (is_client last) && count_by is_client commands == 0 then Some NoClient
    else if is_client last && nat_lt 32 (count_by is_client commands) then Some TooManyClients
    else if nat_lt 200000 (count_by (λ command. not (is_client command)) commands) then Some TooManyLines
    else if nat_lt 4000000 (entries_behind 0 commands) then Some TooManyEntries
    else None

-- ---- the lines of an input

-- a line that is not empty: its number from 1 over all lines, what it says or its own cause, and what was said before
pub record Line : Type 0 where
  pub number : ℕ
  pub reading : Result Command Cause
  pub before : List Command

-- the lines that are not empty, of these texts, of which the first has this number
unfoldable pub lines_from : ℕ → List Command → List (List ℕ) → List Line
lines_from number before [] = []
lines_from number before (text ∷ texts) =
    if length text == 0 then lines_from (number + 1) before texts
    else record { number = number; reading = reading_of text; before = before }
    ∷ lines_from (number + 1) (before ++ option_to_list (result_ok (reading_of text))) texts

-- the input is cut at each line feed, and one carriage return at the end of a line is dropped. What stands after the
-- last line feed is a line too, perhaps an empty one.
unfoldable pub input_lines : List ℕ → List Line
input_lines bytes = lines_from 1 [] (map strip_carriage_return (slice_split (λ b. b == 10) bytes))

-- ---- refusal

-- the first cause of a line: its own, or else the one that it has after the lines before it
abbrev pub cause_after : List Command → Result Command Cause → Option Cause
cause_after before (Err cause) = Some cause
cause_after before (Ok command) = limit_cause (before ++ command ∷ []) command

-- the refusal of an input: the first line that has a cause, with its first cause
abbrev pub error_of : Line → Option InputError
error_of line = option_map (λ cause. record { line = line.number; cause = cause }) (cause_after line.before line.reading)

unfoldable pub refusal_of : List ℕ → Option InputError
refusal_of bytes = slice_get (filter_map error_of (input_lines bytes)) 0

-- ---- the session

-- the request of a PUT or PUTNEW line, with the place of its record
abbrev pub put_request : PutWhen → List ℕ → ℕ → Request
put_request Always name val = asks.Put name val
put_request IfAbsent name val = asks.PutNew name val

-- the request of a line. The record of a PUT or PUTNEW line has as many records before it as there are such lines.
abbrev pub request_by : List Command → Result Command Cause → Option Request
request_by before (Ok (says.Put when name fields)) = Some (put_request when name (count_by is_put before))
request_by before (Ok (says.Delete name)) = Some (asks.Delete name)
request_by before (Ok (says.Head name)) = Some (asks.Head name)
request_by before (Ok (says.List query)) = Some (asks.List query)
request_by before (Ok (says.ListV1 query)) = Some (asks.ListV1 query)
request_by before (Ok says.Next) = Some asks.Next
request_by before reading = None

-- the name of a PUT, PUTNEW, DELETE or HEAD line, and the record of a PUT or PUTNEW line
abbrev pub name_by : Result Command Cause → Option (List ℕ)
name_by (Ok (says.Put when name fields)) = Some name
name_by (Ok (says.Delete name)) = Some name
name_by (Ok (says.Head name)) = Some name
name_by reading = None

abbrev pub record_by : Result Command Cause → Option Record
record_by (Ok (says.Put when name fields)) = Some fields
record_by reading = None

abbrev pub asked_of : Line → Option Asked
asked_of line = option_map (λ request. record { line = line.number; request = request }) (request_by line.before line.reading)

-- the session is that of the input: each CLIENT line begins a client, which has the lines up to the next one
pub record IsSessionOf (bytes : List ℕ) (session : Session) : Type 0 where
  pub faultless : refusal_of bytes ≡ None
  pub clients : session.clients
      ≡ map (λ lines. record { requests = filter_map asked_of lines })
      (drop 1 (slice_split (λ (line : Line). option_map_or is_client (result_ok line.reading) false) (input_lines bytes)))
  pub names : session.names ≡ filter_map (λ (line : Line). name_by line.reading) (input_lines bytes)
  pub records : session.records ≡ filter_map (λ (line : Line). record_by line.reading) (input_lines bytes)
