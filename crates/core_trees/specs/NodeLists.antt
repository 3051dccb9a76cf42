-- The graph that lists of keys, values and children hold, by slot.
use Rattle.std.specs.Prelude.{ℕ, List, slice_index}
use Rattle.index_words.specs.declared.side.Side.{Side}
use Rattle.index_words.specs.declared.side.Side.TheVariants.{Left, Right}
use Rattle.core_trees.specs.declared.nodes.NodeLists.{NodeLists}
use Rattle.core_trees.specs.SpelledTree.{Graph}

-- the child on a side, from the two lists
abbrev pub child_in : List ℕ → List ℕ → Side → ℕ → ℕ
child_in lefts rights Left slot = slice_index lefts slot
child_in lefts rights Right slot = slice_index rights slot

abbrev pub graph_of : NodeLists → Graph
graph_of nodes = record {
  key = slice_index nodes.keys.now;
  val = slice_index nodes.vals.now;
  child = child_in nodes.lefts.now nodes.rights.now;
}
