-- Helper: the headline does not rest on this file.
-- What the generated session asks: the session of its text.
use Rattle.std.specs.Prelude.{ℕ, false, zero, suc, ◌+◌, ◌*◌, ◌%◌, ◌==◌, List, [], ◌∷◌, ◌++◌, codes, if◌then◌else◌}
use Rattle.std.specs.Fmt.{decimal}
use Rattle.bucket_terms.specs.declared.list_query.ListQuery.{ListQuery}
use Rattle.bucket_terms.specs.declared.record.Record.{Record}
use Rattle.bucket_terms.specs.declared.request.Request.{Request}
use Rattle.bucket_terms.specs.declared.request.Request.TheVariants.{Put, Delete, List as ListRequest}
use Rattle.request_lines.specs.declared.session.Asked.{Asked}
use Rattle.request_lines.specs.declared.session.ClientPart.{ClientPart}
use Rattle.request_lines.specs.declared.session.Session.{Session}
use Rattle.line_grammar.specs.Line.{most_keys}
use Rattle.request_lines.specs.Sample.{sample_name}

-- the most requests of a client
abbrev pub most_sample_requests : ℕ
most_sample_requests = 40000

-- what the names of a client begin with, and no other's
abbrev pub sample_prefix : ℕ → List ℕ
sample_prefix client = codes "s" ++ decimal client ++ codes "/"

-- a listing of everything
abbrev pub plain_query : ListQuery
plain_query = record { prefix = []; delimiter = []; start_after = []; token = []; max_keys = most_keys; url = false }

-- a listing of a client's own names
abbrev pub sample_query : ℕ → ListQuery
sample_query client = record plain_query { prefix = sample_prefix client; max_keys = 100 }

-- the record of a put: the number of its request is its size and its time
abbrev pub sample_record : ℕ → Record
sample_record i = record { size = i; etag = codes "e"; modified = i }

-- one for a put, and 0 for a removal and a listing
unfoldable pub one_if_put : ℕ → ℕ
one_if_put i = if i % 4 == 2 then 0 else if i % 4 == 3 then 0 else 1

-- how many of a client's first requests are puts
abbrev pub sample_puts : ℕ → ℕ
sample_puts zero = 0
sample_puts (suc i) = sample_puts i + one_if_put i

-- a request, where so many records of puts stand before it
unfoldable pub sample_request : ℕ → ℕ → ℕ → Request
sample_request records client i =
    if i % 4 == 2 then Delete (sample_name client i) else if i % 4 == 3 then ListRequest (sample_query client) else Put (sample_name client i) records

-- a client's request with its line: in front of it are the lines of the clients before, and its own `CLIENT` line
abbrev pub sample_asked : ℕ → ℕ → ℕ → Asked
sample_asked n client i = record {
  line = client * (n + 1) + 2 + i;
  request = sample_request (client * sample_puts n + sample_puts i) client i;
}

-- a client's first requests
abbrev pub sample_requests : ℕ → ℕ → ℕ → List Asked
sample_requests n client zero = []
sample_requests n client (suc i) = sample_requests n client i ++ sample_asked n client i ∷ []

abbrev pub sample_part : ℕ → ℕ → ClientPart
sample_part n client = record { requests = sample_requests n client n }

-- the name of a request, where it has one, and the record of a put
unfoldable pub sample_named : ℕ → ℕ → List (List ℕ)
sample_named client i = if i % 4 == 2 then sample_name client i ∷ [] else if i % 4 == 3 then [] else sample_name client i ∷ []

unfoldable pub sample_recorded : ℕ → List Record
sample_recorded i = if i % 4 == 2 then [] else if i % 4 == 3 then [] else sample_record i ∷ []

-- the names and records of a client's first requests
abbrev pub sample_names : ℕ → ℕ → List (List ℕ)
sample_names client zero = []
sample_names client (suc i) = sample_names client i ++ sample_named client i

abbrev pub sample_records : ℕ → List Record
sample_records zero = []
sample_records (suc i) = sample_records i ++ sample_recorded i

-- the parts, names and records of the first clients, each with `n` requests
abbrev pub sample_clients_parts : ℕ → ℕ → List ClientPart
sample_clients_parts n zero = []
sample_clients_parts n (suc client) = sample_clients_parts n client ++ sample_part n client ∷ []

abbrev pub sample_clients_names : ℕ → ℕ → List (List ℕ)
sample_clients_names n zero = []
sample_clients_names n (suc client) = sample_clients_names n client ++ sample_names client n

abbrev pub sample_clients_records : ℕ → ℕ → List Record
sample_clients_records n zero = []
sample_clients_records n (suc client) = sample_clients_records n client ++ sample_records n

-- the session of the generated input
abbrev pub sample_session : ℕ → Session
sample_session n = record {
  clients = sample_clients_parts n 4;
  names = sample_clients_names n 4;
  records = sample_clients_records n 4;
}
