-- Helper: the headline does not rest on this file.
-- What a runner is asked for, and what it has done: each client of a session was run over a pass of its own of one
-- index, which may have been used before, and which others may use at the same time.
use Rattle.std.specs.Prelude.{◌≡◌, ℕ, ◌<◌, ◌≤◌, List, [], length, map, All, slice_index_or}
use Rattle.bucket_terms.specs.declared.reply.Placed.{Placed}
use Rattle.bucket_terms.specs.LegalRun.{RequestLine, lines_of}
use Rattle.bucket_terms.specs.RunParts.{updates_in}
use Rattle.request_lines.specs.declared.session.ClientPart.{ClientPart}
use Rattle.request_lines.specs.Session.{request_lines}
use Rattle.request_lines.specs.SessionLaws.{IsAskable, Rise}
use Rattle.client_run.specs.ClientRun.{RanClient, IsLaterLine}
use Rattle.table_rule.specs.Homes.{Home}
use Rattle.table_steps.specs.Passes.{Pass}
use Rattle.shared_index.specs.Keys.{IsKeyOf}
use Rattle.shared_index.specs.Shown.{shown}

-- the lines of each client
abbrev pub parts_of : List ClientPart → List (List RequestLine)
parts_of clients = map request_lines clients

-- this client's lines can be answered over the pass of this key: the key is of the index and has the client's number,
-- the names are in the directory, enough updates are left, and the lines rise from above those of the pass's own
-- updates
pub record CanRun (dir : List (List ℕ)) (index : Home) (client : ℕ) (lines : List RequestLine) (key : Pass) : Type 0 where
  pub of : IsKeyOf index key
  pub number : (shown key).number ≡ client
  pub askable : All (IsAskable dir) lines
  pub calls : updates_in lines ≤ (shown key).left
  pub rising : Rise lines
  pub later : All (λ (l : RequestLine). IsLaterLine (shown key) l.line) lines

-- there is one key per client, and each client's lines can be answered over the pass of its own
pub record CanRunEach (dir : List (List ℕ)) (index : Home) (parts : List (List RequestLine)) (keys : List Pass) : Type 0 where
  pub one_each : length keys ≡ length parts
  pub each : (c : ℕ) (d : Pass) → c < length parts → CanRun dir index c (lines_of parts c) (slice_index_or keys c d)

-- this client's lines were answered over the pass whose key was `old` before and is `new` now
pub record RanOver (dir : List (List ℕ)) (index : Home) (client : ℕ) (lines : List RequestLine) (old new : Pass) (replies : List Placed) : Type 0 where
  pub of : IsKeyOf index new
  pub number : (shown new).number ≡ client
  pub ran : RanClient dir lines (shown old) (shown new) replies

-- there is one key and one list of replies per client, and each client's lines were answered so
pub record RanOverEach (dir : List (List ℕ)) (index : Home) (parts : List (List RequestLine)) (old new : List Pass) (replies : List (List Placed)) : Type 0 where
  pub keys : length new ≡ length parts
  pub lists : length replies ≡ length parts
  pub each : (c : ℕ) (d e : Pass) → c < length parts
      → RanOver dir index c (lines_of parts c) (slice_index_or old c d) (slice_index_or new c e) (slice_index_or replies c [])
