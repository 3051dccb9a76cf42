-- Helper: the headline does not rest on this file.
-- The places of the updates of a session's request lines: a table for each client, with an entry for each of its lines.
use Rattle.std.specs.Prelude.{◌≡◌, ℕ, ◌<◌, List, [], length, Option, None, slice_get, slice_index_or, Some}
use Rattle.key_map.specs.declared.update.Update.{Update}
use Rattle.bucket_terms.specs.LegalRun.{RequestLine, Setting, lines_of}
use Rattle.replay_check.specs.Turns.{IsOwnPlace}

-- what a history is to a client, where no slot is counted
abbrev pub history_of : List Update → ℕ → Setting
history_of updates client = record { dir = []; updates = updates; client = client; slots = 0 }

-- the client's entry for its line at this place
abbrev pub entry_at : List (List (Option ℕ)) → ℕ → ℕ → Option ℕ
entry_at tables client place = slice_index_or (slice_index_or tables client []) place None

-- each entry is the place of its line's update in the history
pub record AreOwn (parts : List (List RequestLine)) (updates : List Update) (tables : List (List (Option ℕ))) : Type 0 where
  pub clients : length tables ≡ length parts
  pub count : (client : ℕ) → client < length parts → length (slice_index_or tables client []) ≡ length (lines_of parts client)
  pub each : (client place : ℕ) (l : RequestLine) → client < length parts → slice_get (lines_of parts client) place ≡ Some l
      → IsOwnPlace (history_of updates client) l.line (entry_at tables client place)
