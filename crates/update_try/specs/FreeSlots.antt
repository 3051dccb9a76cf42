-- Whether a pass has the free slots that an update may take.
use Rattle.std.specs.Prelude.{◌<◌, ◌≤◌, ◌⊎◌, length}
use Rattle.index_words.specs.declared.view.View.{View}

-- the view has the free slots that an update may take: one node and four entries. Retired ones are not free
abbrev pub HasFreeSlots : View → Type 0
HasFreeSlots v = (1 ≤ length v.free.nodes) × (4 ≤ length v.free.entries)

abbrev pub LacksFreeSlots : View → Type 0
LacksFreeSlots v = (length v.free.nodes < 1) ⊎ (length v.free.entries < 4)
