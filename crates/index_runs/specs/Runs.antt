-- What a pass leaves of a run.
use Rattle.std.specs.Prelude.{◌≡◌, ℕ, ◌<◌, List, length, slice_index_or, None}
use Rattle.table_rule.specs.Homes.{Home}
use Rattle.table_steps.specs.Closes.{number_of}
use Rattle.table_steps.specs.Passes.{Pass}
use Rattle.shared_index.specs.Keys.{IsKeyOf, home_of_pass}
use Rattle.shared_index.specs.Shown.{shown}
use Rattle.index_runs.specs.declared.run.Worked.{Worked}

-- the pass has no snapshot open
abbrev pub IsClosed : Pass → Type 0
IsClosed pass = (shown pass).opened ≡ None

-- the same pass of the same index, with no snapshot open
pub record GoesOn (old new : Pass) : Type 0 where
  pub closed : (shown new).opened ≡ None
  pub number : (shown new).number ≡ (shown old).number
  pub home : home_of_pass new ≡ home_of_pass old

-- the key of the pass
abbrev pub key_of : Worked → Pass
key_of worked = worked.key

-- the pass of the index was laid down: it has the number that it had
pub record IsLaidDown (index : Home) (old new : Pass) : Type 0 where
  pub of : IsKeyOf index new
  pub number : number_of new ≡ number_of old

-- each pass has laid its key down
pub record LaidDown (index : Home) (keys : List Pass) (left : List Worked) : Type 0 where
  pub one_each : length left ≡ length keys
  pub each : (i : ℕ) (k : Pass) (d : Worked) → i < length keys → IsLaidDown index (slice_index_or keys i k) (key_of (slice_index_or left i d))
