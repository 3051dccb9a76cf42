-- The rule on the slots of a view that wait to become free again: whose they are, and who works at them.
use Rattle.std.specs.Prelude.{◌≡◌, ℕ, ◌<◌, List, [], Option, None}
use Rattle.index_words.specs.declared.view.View.{View}
use Rattle.index_words.specs.Views.{no_slots}
use Rattle.key_map.specs.Lists.{count}
use Rattle.core_grace.specs.Holds.{held_nodes}
use Rattle.index_words.specs.declared.view.slots.Slots.{Slots}

-- the view has no pass number, and was given none
abbrev pub IsNameless : View → Type 0
IsNameless v = (v.number ≡ None) × (v.history.ended ≡ [])

abbrev pub HasNoneWaiting : View → Type 0
HasNoneWaiting v = (v.retired ≡ no_slots) × (v.batch ≡ no_slots)

-- a view neither reads nor works on a node of its own batch; and slots wait in a view only if it has a pass number, or
-- was given one
pub record WaitsRightOf (number : Option ℕ) (ended : List ℕ) (retired batch : Slots) (held : List ℕ) : Type 0 where
  pub apart : (k : ℕ) → 0 < count k batch.nodes → 0 < count k held → ⊥
  pub owned : (number ≡ None) × (ended ≡ []) → (retired ≡ no_slots) × (batch ≡ no_slots)

abbrev pub WaitsRight : View → Type 0
WaitsRight v = WaitsRightOf v.number v.history.ended v.retired v.batch (held_nodes v)
