-- Helper: the headline does not rest on this file.
-- What the runner of the program keeps, and the results of its threads.
use Rattle.std.specs.Prelude.{◌≡◌, ℕ, ◌<◌, List, [], length, Option, Some, None, Result, Ok, IfOk, slice_index_or}
use Rattle.bucket_terms.specs.declared.reply.Placed.{Placed}
use Rattle.bucket_terms.specs.LegalRun.{RequestLine, lines_of}
use Rattle.table_rule.specs.Homes.{Home}
use Rattle.table_steps.specs.Passes.{Pass}
use Rattle.shared_index.specs.Shown.{shown}
use Rattle.client_threads.specs.Runs.{CanRun, RanOver}

-- how many runs were made, and the replies of the last one
pub record Kept : Type 0 where
  pub runs : ℕ
  pub replied : List (List Placed)

-- before the first run there are no replies
abbrev pub replies_kept : Option (List (List Placed)) → List (List Placed)
replies_kept None = []
replies_kept (Some lists) = lists

-- the key is one of a client, whose lines can be answered over its pass
pub record CanRunOne (dir : List (List ℕ)) (index : Home) (parts : List (List RequestLine)) (key : Pass) : Type 0 where
  pub there : (shown key).number < length parts
  pub can : CanRun dir index (shown key).number (lines_of parts (shown key).number) key

-- a client's key after its run, what else its thread brought back, and its replies
pub record Ran (S : Type 0) : Type 0 where
  pub key : Pass
  pub seat : S
  pub replies : List Placed

-- the result of each job: if it went well, it was that of the client of its place
pub record CameOf {J S E : Type 0} (P : ℕ → J → Ran S → Type 0) (jobs : List J) (results : List (Result (Ran S) E)) : Type 0 where
  pub one_each : length results ≡ length jobs
  pub each : (c : ℕ) (j : J) (d : Result (Ran S) E) → c < length jobs → IfOk (slice_index_or results c d) (P c (slice_index_or jobs c j))

-- the client's lines were answered over the pass of its key
abbrev pub RanOne : {S : Type 0} → List (List ℕ) → Home → List (List RequestLine) → ℕ → Pass → Ran S → Type 0
RanOne dir index parts client key r = RanOver dir index client (lines_of parts client) key r.key r.replies

-- all runs went well, and this is what they brought back, in order
pub record AreParts {S E : Type 0} (results : List (Result (Ran S) E)) (keys : List Pass) (seats : List S) (replies : List (List Placed)) : Type 0 where
  pub keys_length : length keys ≡ length results
  pub seats_length : length seats ≡ length results
  pub replies_length : length replies ≡ length results
  pub each : (i : ℕ) (d : Result (Ran S) E) (e : Pass) (s : S) → i < length results
      → slice_index_or results i d ≡ Ok (record { key = slice_index_or keys i e; seat = slice_index_or seats i s; replies = slice_index_or replies i [] })
