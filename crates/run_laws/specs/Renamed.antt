-- The clients of a session change their numbers: for example, two of them change places. Nothing else of a run depends
-- on the numbers.
use Rattle.std.specs.Prelude.{◌≡◌, ℕ, ◌<◌, List, length, map}
use Rattle.key_map.specs.declared.update.Update.{Update}
use Rattle.bucket_terms.specs.declared.reply.Placed.{Placed}
use Rattle.bucket_terms.specs.LegalRun.{RequestLine, Run, IsLegal, lines_of, replies_of}

-- an update and a placed reply of the client with the new number
abbrev pub renamed_update : (ℕ → ℕ) → Update → Update
renamed_update new u = record u { client = new u.client }

abbrev pub renamed_reply : (ℕ → ℕ) → Placed → Placed
renamed_reply new p = record p { client = new p.client }

-- the clients have changed their numbers in such a way that the same change once more restores each number
pub record AreRenamed (new : ℕ → ℕ) (parts parts' : List (List RequestLine)) (slots slots' : ℕ → ℕ) : Type 0 where
  pub back : (c : ℕ) → new (new c) ≡ c
  pub clients : length parts' ≡ length parts
  pub within : (c : ℕ) → c < length parts → new c < length parts
  pub lines : (c : ℕ) → c < length parts → lines_of parts' (new c) ≡ lines_of parts c
  pub slots_are : (c : ℕ) → slots' (new c) ≡ slots c

-- and so have those in a run
pub record IsRenamed (new : ℕ → ℕ) (clients : ℕ) (run run' : Run) : Type 0 where
  pub updates : run'.updates ≡ map (renamed_update new) run.updates
  pub lists : length run'.replies ≡ length run.replies
  pub replies : (c : ℕ) → c < clients → replies_of run' (new c) ≡ map (renamed_reply new) (replies_of run c)

-- a legal run is one of the session of the renamed clients
abbrev pub RenamedLaw : Type 0
RenamedLaw =
    (dir : List (List ℕ)) (new : ℕ → ℕ) (parts parts' : List (List RequestLine)) (slots slots' : ℕ → ℕ) (run run' : Run)
    → AreRenamed new parts parts' slots slots' → IsRenamed new (length parts) run run' → IsLegal dir parts slots run → IsLegal dir parts' slots' run'
