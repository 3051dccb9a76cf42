-- What a pass has when its table is opened.
use Rattle.std.specs.Prelude.{◌≡◌, ℕ, ◌+◌, ◌≤◌, List, [], ◌∷◌, None}
use Rattle.index_words.specs.declared.layout.Layout.{Layout}
use Rattle.index_words.specs.declared.view.View.{View}
use Rattle.index_words.specs.Views.{no_slots, no_looks}
use Rattle.key_map.specs.declared.pass.PassSize.{PassSize}
use Rattle.core_events.specs.Openings.{from_up}
use Rattle.pass_slots.specs.Owned.{KeepsLooks}
use Rattle.table_steps.specs.Passes.{Pass}
use Rattle.table_steps.specs.declared.kept.Kept.{Kept}

abbrev pub view_of : Pass → View
view_of p = p.view

-- the pass has this layout
abbrev pub HasLayout : Layout → Pass → Type 0
HasLayout z p = p.view.layout ≡ z

-- the numbers of passes of these sizes, from this one on
abbrev pub numbers_from : ℕ → List PassSize → List ℕ
numbers_from number [] = []
numbers_from number (size ∷ sizes) = number ∷ numbers_from (number + 1) sizes

-- what a pass keeps at the start
pub record IsFresh (z : Layout) (n node entry : ℕ) (size : PassSize) (k : Kept) : Type 0 where
  pub number : k.number ≡ n
  pub word : k.section_word ≡ 0
  pub left : k.left ≡ size.calls
  pub opened : k.opened ≡ None
  pub nodes : k.slots.free.nodes ≡ from_up node size.nodes
  pub entries : k.slots.free.entries ≡ from_up entry size.entries
  pub batch : k.slots.batch ≡ no_slots
  pub retired : k.slots.retired ≡ no_slots
  pub looks : KeepsLooks no_looks k.slots.shown
  pub node_room : z.nodes ≤ k.slots.node_room
  pub entry_room : z.entries ≤ k.slots.entry_room
  pub updates : k.updates.updates ≡ []
  pub room : size.calls ≤ k.updates.room

-- the bounds of a table's sizes
pub record IsSmall (z : Layout) : Type 0 where
  pub passes : z.passes ≤ 32
  pub nodes : z.nodes ≤ 262144
  pub entries : z.entries ≤ 1048576
