-- What the rule says of what can be read of a table.
use Rattle.std.specs.Prelude.{◌≡◌, List}
use Rattle.index_words.specs.declared.layout.Layout.{Layout}
use Rattle.index_words.specs.declared.view.View.{View}
use Rattle.index_words.specs.Words.{Memory}
use Rattle.core_events.specs.LoadMoves.{longest}
use Rattle.core_events.specs.SpelledNow.{tree_now}
use Rattle.core_invariant.specs.Meanings.{Meaning}
use Rattle.core_invariant.specs.Rule.{Rule}

-- the longest history that a view knows is the whole one
abbrev pub LongestLaw : Type 0
LongestLaw = (z : Layout) (m : Memory) (vs : List View) (g : Meaning) → Rule z m vs g → longest vs ≡ g.updates

-- the tree that is read from the words, at the stamp, is the one that they mean
abbrev pub TreeNowLaw : Type 0
TreeNowLaw = (z : Layout) (m : Memory) (vs : List View) (g : Meaning) → Rule z m vs g → tree_now z m vs ≡ g.tree
