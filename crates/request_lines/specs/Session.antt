-- Helper: the headline does not rest on this file.
-- The request lines of a client, as the legal run speaks of them.
use Rattle.std.specs.Prelude.{List, map}
use Rattle.bucket_terms.specs.LegalRun.{RequestLine}
use Rattle.request_lines.specs.declared.session.Asked.{Asked}
use Rattle.request_lines.specs.declared.session.ClientPart.{ClientPart}

-- a request with its line, as a legal run speaks of it
abbrev pub request_line : Asked → RequestLine
request_line asked = record { line = asked.line; request = asked.request }

-- the lines of a client's part
abbrev pub request_lines : ClientPart → List RequestLine
request_lines part = map request_line part.requests
