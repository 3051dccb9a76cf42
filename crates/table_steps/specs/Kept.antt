-- What a pass keeps at run time, besides what its view says.
use Rattle.std.specs.Prelude.{◌≡◌, ◌<◌, ◌≤◌, Some, IfSome}
use Rattle.index_words.specs.declared.view.View.{View}
use Rattle.pass_slots.specs.Owned.{KeepsSlots}
use Rattle.table_steps.specs.Made.{KeepsOwn}
use Rattle.table_steps.specs.declared.kept.Kept.{Kept}

-- what is kept of the number, the own section word, the calls left, the open snapshot, the slots, the own updates and
-- the place of an update that has raised is what the view says; the pass is one of a table of at most 32, and has room
-- for all slots of its table
pub record Keeps (v : View) (k : Kept) : Type 0 where
  pub number : v.number ≡ Some k.number
  pub there : k.number < v.layout.passes
  pub few : v.layout.passes ≤ 32
  pub word : v.section_word ≡ k.section_word
  pub left : v.history.left ≡ k.left
  pub opened : v.reading.opened ≡ k.opened
  pub slots : KeepsSlots v k.slots
  pub node_room : v.layout.nodes ≤ k.slots.node_room
  pub entry_room : v.layout.entries ≤ k.slots.entry_room
  pub own : KeepsOwn v.history k.updates
  pub raised : IfSome v.update.raised (λ at. at ≡ k.raised)
