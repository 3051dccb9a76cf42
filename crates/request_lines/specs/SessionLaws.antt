-- Helper: the headline does not rest on this file.
-- What holds of every session that was read.
use Rattle.std.specs.Prelude.{◌≡◌, ℕ, ◌^◌, ◌<◌, ◌≤◌, List, length, All, AllPairs, Contains, Option, Some, None, IfSome}
use Rattle.std.specs.List.{flat_map, filter_map, range_with_len}
use Rattle.bucket_terms.specs.LegalRun.{RequestLine}
use Rattle.bucket_terms.specs.declared.request.Request.{Request}
use Rattle.bucket_terms.specs.declared.request.Request.TheVariants.{Put, PutNew, Delete, Head, List as ListRequest, ListV1}
use Rattle.key_names.specs.Names.{IsFine}
use Rattle.request_lines.specs.declared.session.Asked.{Asked}
use Rattle.request_lines.specs.declared.session.ClientPart.{ClientPart}
use Rattle.request_lines.specs.declared.session.Session.{Session}
use Rattle.request_lines.specs.InputParts.{most_clients, most_requests}
use Rattle.line_grammar.specs.Fine.{IsFineQuery, IsFineV1Query}
use Rattle.request_lines.specs.Session.{request_line, request_lines}

-- what all clients ask, client by client
abbrev pub all_requests : List ClientPart → List Asked
all_requests parts = flat_map (λ (part : ClientPart). part.requests) parts

-- the name of an object that a request is about
abbrev pub requested_name : Request → Option (List ℕ)
requested_name (Put name val) = Some name
requested_name (PutNew name val) = Some name
requested_name (Delete name) = Some name
requested_name (Head name) = Some name
requested_name request = None

-- the place of the record that a request puts
abbrev pub record_place : Request → Option ℕ
record_place (Put name val) = Some val
record_place (PutNew name val) = Some val
record_place request = None

abbrev pub asked_name : Asked → Option (List ℕ)
asked_name asked = requested_name asked.request

abbrev pub asked_place : Asked → Option ℕ
asked_place asked = record_place asked.request

-- the names are those of the PUT, PUTNEW, DELETE and HEAD requests, in the order of the lines, and an object may have
-- each
pub record HasNames (session : Session) : Type 0 where
  pub in_order : session.names ≡ filter_map asked_name (all_requests session.clients)
  pub fine : All IsFine session.names

-- the places of the records that the PUT and PUTNEW requests put are 0, 1 and so on, to the last record
pub record HasRecords (session : Session) : Type 0 where
  pub in_order : filter_map asked_place (all_requests session.clients) ≡ range_with_len 0 (length session.records)

-- a listing has a query that can be answered
abbrev pub IsFineRequest : Request → Type 0
IsFineRequest (ListRequest query) = IsFineQuery query
IsFineRequest (ListV1 query) = IsFineV1Query query
IsFineRequest request = Unit {0}

-- the name that the request speaks of is among these
abbrev pub IsAskable : List (List ℕ) → RequestLine → Type 0
IsAskable names l = IfSome (requested_name l.request) (Contains names)

-- the record that the request puts, where it puts one, is among the first `count`
abbrev pub HasRecordBelow : ℕ → RequestLine → Type 0
HasRecordBelow count l = IfSome (record_place l.request) (λ place. place < count)

-- the request's name is among these names, its record among this many, and its query is fine
pub record IsServed (names : List (List ℕ)) (records : ℕ) (asked : Asked) : Type 0 where
  pub name : IsAskable names (request_line asked)
  pub place : HasRecordBelow records (request_line asked)
  pub query : IsFineRequest asked.request

-- each request of each client is served by the session's names and records
pub record HasRequests (session : Session) : Type 0 where
  pub served : All (λ (part : ClientPart). All (IsServed session.names (length session.records)) part.requests) session.clients

-- the lines rise strictly
abbrev pub Rise : List RequestLine → Type 0
Rise lines = AllPairs (λ (l m : RequestLine). l.line < m.line) lines

-- lines are counted from 1, and a number has 32 bits
abbrev pub HasLineNumber : RequestLine → Type 0
HasLineNumber l = (0 < l.line) × (l.line < 2 ^ 32)

-- each client's lines rise strictly, from 1 on
pub record HasLines (session : Session) : Type 0 where
  pub rising : All (λ (part : ClientPart). Rise (request_lines part)) session.clients
  pub numbers : All (λ (part : ClientPart). All HasLineNumber (request_lines part)) session.clients

-- how many clients and requests there are at most
pub record IsSmall (session : Session) : Type 0 where
  pub clients : length session.clients ≤ most_clients
  pub requests : length (all_requests session.clients) ≤ most_requests
