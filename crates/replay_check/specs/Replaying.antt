-- Helper: the headline does not rest on this file.
-- A map that is advanced along a history.
use Rattle.std.specs.Prelude.{◌≡◌, ℕ, ◌-◌, ◌<◌, ◌≤◌, List, length, Some, slice_get}
use Rattle.key_map.specs.declared.update.Update.{Update}
use Rattle.key_map.specs.History.{after}
use Rattle.key_map.specs.Map.{map_has}
use Rattle.replay_check.specs.declared.replay.Replay.{Replay}

-- the map is that after this many of these updates
pub record IsReplayed (r : Replay) (updates : List Update) (at : ℕ) : Type 0 where
  pub at_is : r.at ≡ at
  pub within : at ≤ length updates
  pub map_is : r.map ≡ after updates at
  -- whether the key of the last of them was there right before it
  pub was_is : (u : Update) → 0 < at → slice_get updates (at - 1) ≡ Some u → r.was ≡ map_has u.key (after updates (at - 1))
