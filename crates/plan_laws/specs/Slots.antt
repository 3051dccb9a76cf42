-- The free slots of which an update takes its own.
use Rattle.std.specs.Prelude.{ℕ, ◌<◌}
use Rattle.index_words.specs.declared.view.View.{View}
use Rattle.key_map.specs.Lists.{IsItem}
use Rattle.core_events.specs.Tables.{Table}
use Rattle.core_invariant.specs.Rule.{IsRight}
use Rattle.core_updates.specs.declared.plan.PlanSlots.{PlanSlots}
use Rattle.core_updates.specs.PlanEvents.{HasSlots}

-- free slots of a seat are above 0
pub record AreSome (slots : PlanSlots) : Type 0 where
  pub node : 0 < slots.node
  pub at : 0 < slots.at
  pub left : 0 < slots.left
  pub right : 0 < slots.right
  pub next : 0 < slots.next

abbrev pub SlotsSomeLaw : Type 0
SlotsSomeLaw = (t : Table) (i : ℕ) (v : View) (slots : PlanSlots) → IsRight t → IsItem t.views i v → HasSlots v slots → AreSome slots
