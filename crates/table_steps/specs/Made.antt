-- The updates that a pass made, as it keeps them.
use Rattle.std.specs.Prelude.{◌≡◌, ℕ, ◌+◌, ◌≤◌, List, length, map, Some}
use Rattle.index_words.specs.declared.view.history.SeenHistory.{SeenHistory}
use Rattle.key_map.specs.Lists.{Every}
use Rattle.core_invariant.specs.Histories.{update_at}
use Rattle.table_steps.specs.declared.own_updates.OwnUpdate.{OwnUpdate}

-- the updates, and how many there is room for
pub record Made : Type 0 where
  pub updates : List OwnUpdate
  pub room : ℕ

-- each own update stands at its place in what was seen, and there is room for those that are left to make
pub record KeepsOwn (h : SeenHistory) (made : Made) : Type 0 where
  pub places : h.mine ≡ map (λ (u : OwnUpdate). u.at) made.updates
  pub each : Every (λ (u : OwnUpdate). update_at h.seen u.at ≡ Some u.update) made.updates
  pub room : length made.updates + h.left ≤ made.room
