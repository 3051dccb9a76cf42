-- Helper: the headline does not rest on this file.
-- The index of a session: which sessions it is opened for, and the sizes of its passes.
use Rattle.std.specs.Prelude.{ℕ, ◌+◌, ◌*◌, ◌<◌, ◌≤◌, List, length, map, All, Option}
use Rattle.std.specs.Option.{unwrap_or}
use Rattle.key_map.specs.declared.pass.PassSize.{PassSize}
use Rattle.bucket_terms.specs.RunParts.{updates_in}
use Rattle.request_lines.specs.declared.session.ClientPart.{ClientPart}
use Rattle.request_lines.specs.declared.session.Session.{Session}
use Rattle.request_lines.specs.InputParts.{most_clients, most_requests}
use Rattle.request_lines.specs.Session.{request_lines}
use Rattle.request_lines.specs.SessionLaws.{IsAskable, HasRecordBelow, Rise, all_requests}

-- the size of the pass of a client that may make this many updates: the node slots that are named, or one more than the
-- updates; four entry slots for each; and a call for each update
abbrev pub size_for : Option ℕ → ℕ → PassSize
size_for named updates = record {
  nodes = unwrap_or named (updates + 1);
  entries = 4 * unwrap_or named (updates + 1);
  calls = updates;
}

abbrev pub size_of : Option ℕ → ClientPart → PassSize
size_of named part = size_for named (updates_in (request_lines part))

abbrev pub sizes_of : Option ℕ → List ClientPart → List PassSize
sizes_of named clients = map (size_of named) clients

-- there is at least one of these clients, and there are no more clients and requests than a session may have
pub record AreFew (clients : List ClientPart) : Type 0 where
  pub some : 0 < length clients
  pub few : length clients ≤ most_clients
  pub requests : length (all_requests clients) ≤ most_requests

-- the session can be run with this directory: each request's name is in it, each client's lines rise, and each record
-- that a request puts is there
pub record CanServe (dir : List (List ℕ)) (session : Session) : Type 0 where
  pub few : AreFew session.clients
  pub askable : All (λ (part : ClientPart). All (IsAskable dir) (request_lines part)) session.clients
  pub rising : All (λ (part : ClientPart). Rise (request_lines part)) session.clients
  pub recorded : All (λ (part : ClientPart). All (HasRecordBelow (length session.records)) (request_lines part)) session.clients
