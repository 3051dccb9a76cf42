-- Helper: the headline does not rest on this file.
-- What a reader counts of the lines so far.
use Rattle.std.specs.Prelude.{◌+◌, ◌≤◌, ◌==◌, ◌&&◌, not, nat_lt, Option, Some, None, Result, Ok, Err, if◌then◌else◌}
use Rattle.bucket_terms.specs.declared.request.Request.{Request}
use Rattle.bucket_terms.specs.declared.request.Request.TheVariants as asks
use Rattle.line_grammar.specs.declared.cause.Cause.{Cause}
use Rattle.line_grammar.specs.declared.cause.Cause.TheVariants.{NoClient, TooManyClients, TooManyLines, TooManyEntries}
use Rattle.line_grammar.specs.declared.command.Command.{Command}
use Rattle.line_grammar.specs.declared.command.Command.TheVariants as says
use Rattle.request_lines.specs.declared.counts.Counts.{Counts}
use Rattle.request_lines.specs.Input.{is_client, put_request}
use Rattle.request_lines.specs.InputParts.{most_clients, most_requests, most_listed}
use Rattle.line_grammar.specs.Line.{most_keys}

-- before the first line
abbrev pub none_counted : Counts
none_counted = record { clients = 0; requests = 0; puts = 0; entries = 0; last = 0 }

-- with one more line. A LIST or LISTV1 line counts with its `max_keys`, the most entries that its page can have, and
-- a NEXT line with that of its client's last LIST line, or 0 where there is none.
abbrev pub counted : Counts → Command → Counts
counted so_far says.Client = record so_far { clients = so_far.clients + 1; last = 0 }
counted so_far (says.Put when name fields) = record so_far { requests = so_far.requests + 1; puts = so_far.puts + 1 }
counted so_far (says.Delete name) = record so_far { requests = so_far.requests + 1 }
counted so_far (says.Head name) = record so_far { requests = so_far.requests + 1 }
counted so_far (says.List query) = record so_far { requests = so_far.requests + 1; entries = so_far.entries + query.max_keys; last = query.max_keys }
counted so_far (says.ListV1 query) = record so_far { requests = so_far.requests + 1; entries = so_far.entries + query.max_keys }
counted so_far says.Next = record so_far { requests = so_far.requests + 1; entries = so_far.entries + so_far.last }

-- the counts of lines that keep the limits
pub record IsWithin (so_far : Counts) : Type 0 where
  pub clients : so_far.clients ≤ most_clients
  pub requests : so_far.requests ≤ most_requests
  pub puts : so_far.puts ≤ so_far.requests
  pub entries : so_far.entries ≤ most_listed
  pub last : so_far.last ≤ most_keys

-- the first cause that a line has after the lines before it. The counts are those up to and with the line.
unfoldable pub limit_by_counts : Counts → Command → Option Cause
limit_by_counts so_far command =
    if not (is_client command) && so_far.clients == 0 then Some NoClient
    else if is_client command && nat_lt most_clients so_far.clients then Some TooManyClients
    else if nat_lt most_requests so_far.requests then Some TooManyLines
    else if nat_lt most_listed so_far.entries then Some TooManyEntries
    else None

abbrev pub counted_with : Counts → Result Command Cause → Counts
counted_with before (Ok command) = counted before command
counted_with before (Err cause) = before

-- the first cause of a line: its own, or else the one that it has after the lines before it
abbrev pub cause_by_counts : Counts → Result Command Cause → Option Cause
cause_by_counts before (Err cause) = Some cause
cause_by_counts before (Ok command) = limit_by_counts (counted before command) command

-- the request of a line. The record of a PUT or PUTNEW line has as many records before it as there are such lines.
abbrev pub request_by_counts : Counts → Result Command Cause → Option Request
request_by_counts before (Ok (says.Put when name fields)) = Some (put_request when name before.puts)
request_by_counts before (Ok (says.Delete name)) = Some (asks.Delete name)
request_by_counts before (Ok (says.Head name)) = Some (asks.Head name)
request_by_counts before (Ok (says.List query)) = Some (asks.List query)
request_by_counts before (Ok (says.ListV1 query)) = Some (asks.ListV1 query)
request_by_counts before (Ok says.Next) = Some asks.Next
request_by_counts before reading = None
