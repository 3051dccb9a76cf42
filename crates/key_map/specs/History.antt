-- Helper: the headline does not rest on this file.
-- The places of the updates of a pass in a history.
use Rattle.std.specs.Prelude.{ℕ, ◌+◌, List, [], ◌∷◌, ◌==◌, if◌then◌else◌}
use Rattle.key_map.specs.declared.update.Update.{Update}
pub use Rattle.key_map.specs.KeyMap.{changed, updated}
unfoldable pub use Rattle.key_map.specs.KeyMap.{after}

-- the places, counted from `at`, of the updates of the pass with this number
abbrev pub places_from : ℕ → ℕ → List Update → List ℕ
places_from number at [] = []
places_from number at (u ∷ us) =
    if u.client == number then at ∷ places_from number (at + 1) us else places_from number (at + 1) us

abbrev pub own_places : ℕ → List Update → List ℕ
own_places number updates = places_from number 1 updates
