-- The slots that a raise or a cut retires, as they are kept at run time.
use Rattle.std.specs.Prelude.{ℕ, ◌+◌, ◌≤◌, List, ◌++◌, length}
use Rattle.pass_slots.specs.Owned.{KeptSlots, node_count, entry_count}

-- with these nodes and entries retired
abbrev pub with_retired : List ℕ → List ℕ → KeptSlots → KeptSlots
with_retired nodes entries s = record s { retired = record { nodes = s.retired.nodes ++ nodes; entries = s.retired.entries ++ entries } }

-- there is room for these slots too, and there are at most `limit` of these entries
pub record HasRoomFor (ns es : List ℕ) (limit : ℕ) (s : KeptSlots) : Type 0 where
  pub nodes : node_count s + length ns ≤ s.node_room
  pub entries : entry_count s + length es ≤ s.entry_room
  pub looks : length es ≤ limit
