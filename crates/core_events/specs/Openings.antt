-- The table at the start: all words are 0, each pass has its slots free and unused and its calls left, and the emptied
-- first view comes after the passes.
use Rattle.std.specs.Prelude.{◌≡◌, ℕ, zero, suc, ◌+◌, ◌-◌, ◌≤◌, List, [], ◌∷◌, ◌++◌, Some, false, replicate, take, drop, length}
use Rattle.index_words.specs.declared.layout.Layout.{Layout}
use Rattle.key_map.specs.declared.pass.PassSize.{PassSize}
use Rattle.index_words.specs.declared.view.View.{View}
use Rattle.index_words.specs.Sizes.{all_nodes, all_entries, all_calls}
use Rattle.index_words.specs.Views.{empty_view}
use Rattle.index_words.specs.Words.{word_count}
use Rattle.core_events.specs.Tables.{Table}

-- this many numbers from one on
abbrev pub from_up : ℕ → ℕ → List ℕ
from_up first zero = []
from_up first (suc n) = from_up first n ++ (first + n) ∷ []

-- the view of a pass: its number, the first of its nodes and of its entries, and its size
abbrev pub pass_view : Layout → ℕ → ℕ → ℕ → PassSize → View
pass_view z number node entry size = record (empty_view z) {
  number = Some number;
  history = record (empty_view z).history { left = size.calls };
  free = record { nodes = from_up node size.nodes; entries = from_up entry size.entries };
  unused = record { nodes = from_up node size.nodes; entries = from_up entry size.entries };
}

-- the passes from a number on, each with the next slots
abbrev pub pass_views : Layout → ℕ → ℕ → ℕ → List PassSize → List View
pass_views z number node entry [] = []
pass_views z number node entry (size ∷ sizes) =
    pass_view z number node entry size ∷ pass_views z (number + 1) (node + size.nodes) (entry + size.entries) sizes

abbrev pub opening : Layout → List PassSize → Table
opening z sizes = record { layout = z; words = replicate (word_count z) 0; views = pass_views z 0 1 1 sizes ++ empty_view z ∷ [] }

-- the first view has no number, all slots and calls free, and all numbers still to give; the table begins with it alone
abbrev pub first_view : Layout → View
first_view z = record (empty_view z) {
  to_give = from_up 0 z.passes;
  history = record (empty_view z).history { left = z.calls };
  free = record { nodes = from_up 1 z.nodes; entries = from_up 1 z.entries };
  unused = record { nodes = from_up 1 z.nodes; entries = from_up 1 z.entries };
}

abbrev pub first_table : Layout → Table
first_table z = record { layout = z; words = replicate (word_count z) 0; views = first_view z ∷ [] }

-- a seat is made: the next number, and the slots and the calls of a pass, move to a new view
abbrev pub made_left : View → PassSize → View
made_left v size = record v {
  to_give = drop 1 v.to_give;
  history = record v.history { left = v.history.left - size.calls };
  free = record { nodes = drop size.nodes v.free.nodes; entries = drop size.entries v.free.entries };
  unused = record { nodes = drop size.nodes v.unused.nodes; entries = drop size.entries v.unused.entries };
}

abbrev pub made_right : View → ℕ → PassSize → View
made_right v number size = record (empty_view v.layout) {
  number = Some number;
  history = record (empty_view v.layout).history { left = size.calls };
  free = record { nodes = take size.nodes v.free.nodes; entries = take size.entries v.free.entries };
  unused = record { nodes = take size.nodes v.unused.nodes; entries = take size.entries v.unused.entries };
}

-- the first view, as long as it has the numbers, slots and calls of passes of these sizes to give
abbrev pub giving : Layout → ℕ → ℕ → ℕ → List PassSize → View
giving z number node entry sizes = record (empty_view z) {
  to_give = from_up number (length sizes);
  history = record (empty_view z).history { left = all_calls sizes };
  free = record { nodes = from_up node (all_nodes sizes); entries = from_up entry (all_entries sizes) };
  unused = record { nodes = from_up node (all_nodes sizes); entries = from_up entry (all_entries sizes) };
}

-- the view has this number to give next, and this many calls left
pub record MayMake (v : View) (number : ℕ) (size : PassSize) : Type 0 where
  pub live : v.joined ≡ false
  pub rest : List ℕ
  pub next : v.to_give ≡ number ∷ rest
  pub calls : size.calls ≤ v.history.left
