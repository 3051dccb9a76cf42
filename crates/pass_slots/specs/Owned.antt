-- What a pass keeps of its slots at run time, besides what its view says.
use Rattle.std.specs.Prelude.{◌≡◌, ℕ, ◌+◌, ◌<◌, List, Bool, Option, Some, length, take, drop, reverse, ◌&&◌, true}
use Rattle.std.specs.List.{slice_get}
use Rattle.index_words.specs.declared.view.View.{View}
use Rattle.index_words.specs.declared.view.slots.Looks.{Looks}
use Rattle.index_words.specs.declared.view.slots.Slots.{Slots}
use Rattle.index_words.specs.Views.{no_looks}
use Rattle.key_map.specs.Lists.{has}
use Rattle.core_grace.specs.Batches.{first_found, is_empty}
use Rattle.core_events.specs.UpdateMoves.{without_all}

-- the slots of one kind: free, in the batch, retired; and how many there is room for
pub record SlotParts : Type 0 where
  pub free : List ℕ
  pub batch : List ℕ
  pub retired : List ℕ
  pub room : ℕ

-- the slots of one kind as one list has them: the retired ones, the last of them first, then those of the batch, the last
-- of them first, and then the free ones
abbrev pub parts_of : ℕ → ℕ → ℕ → List ℕ → SlotParts
parts_of retired batch room slots = record {
  free = drop (retired + batch) slots;
  batch = reverse (take batch (drop retired slots));
  retired = reverse (take retired slots);
  room = room;
}

-- how many slots they are together
abbrev pub slot_count : SlotParts → ℕ
slot_count p = length p.free + length p.batch + length p.retired

-- what looks have shown, by the number of the pass: the odd word that was found first, and whether it was passed
pub record Shown : Type 0 where
  pub first : List (Option ℕ)
  pub passed : List Bool

-- the slots and looks of a pass
pub record KeptSlots : Type 0 where
  pub free : Slots
  pub batch : Slots
  pub retired : Slots
  pub shown : Shown
  pub node_room : ℕ
  pub entry_room : ℕ

-- how many nodes and how many entries it owns
abbrev pub node_count : KeptSlots → ℕ
node_count k = length k.free.nodes + length k.batch.nodes + length k.retired.nodes

abbrev pub entry_count : KeptSlots → ℕ
entry_count k = length k.free.entries + length k.batch.entries + length k.retired.entries

-- slots without these
abbrev pub taken_from : List ℕ → List ℕ → Slots → Slots
taken_from nodes entries s = record { nodes = without_all nodes s.nodes; entries = without_all entries s.entries }

abbrev pub kept_of : SlotParts → SlotParts → Shown → KeptSlots
kept_of nodes entries shown = record {
  free = record { nodes = nodes.free; entries = entries.free };
  batch = record { nodes = nodes.batch; entries = entries.batch };
  retired = record { nodes = nodes.retired; entries = entries.retired };
  shown = shown;
  node_room = nodes.room;
  entry_room = entries.room;
}

-- what is kept is what the looks of a view are
abbrev pub KeepsLooks : Looks → Shown → Type 0
KeepsLooks g s = (n : ℕ) → n < 32 → (slice_get s.first n ≡ Some (first_found n g.found)) × (slice_get s.passed n ≡ Some (has n g.passed))

-- and so are the slots
pub record KeepsSlots (v : View) (k : KeptSlots) : Type 0 where
  pub free : v.free ≡ k.free
  pub batch : v.batch ≡ k.batch
  pub retired : v.retired ≡ k.retired
  pub looks : KeepsLooks v.grace k.shown

-- the room is as it was
pub record HasRoomOf (old new : KeptSlots) : Type 0 where
  pub nodes : new.node_room ≡ old.node_room
  pub entries : new.entry_room ≡ old.entry_room

-- no slot waits, and there is no look
pub record IsIdle (k : KeptSlots) : Type 0 where
  pub settled : (is_empty k.batch && is_empty k.retired) ≡ true
  pub looks : KeepsLooks no_looks k.shown
