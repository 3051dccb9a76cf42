-- What is said of turns of searches, of nodes that leave the plain tree, and of a table of one pass, after an event
-- that is allowed.
use Rattle.std.specs.Prelude.{◌≡◌, ℕ, List, false, true, All, Option, Some}
use Rattle.index_words.specs.declared.layout.Layout.{Layout}
use Rattle.index_words.specs.declared.side.Side.{Side}
use Rattle.index_words.specs.declared.side.Side.TheVariants.{Right}
use Rattle.index_words.specs.declared.view.View.{View}
use Rattle.index_words.specs.declared.word.Field.TheVariants.{Mark, Tag}
use Rattle.index_words.specs.declared.word.Word.{Word}
use Rattle.index_words.specs.declared.word.Word.TheVariants.{Node}
use Rattle.index_words.specs.Words.{Memory, memory, word_at}
use Rattle.key_map.specs.declared.update.Update.{Update}
use Rattle.key_map.specs.Lists.{IsItem}
use Rattle.core_trees.specs.NamedTree.{NamedTree}
use Rattle.core_trees.specs.SpelledTree.{Graph, IsSpelled}
use Rattle.core_events.specs.declared.event.Kind.{Kind}
use Rattle.core_events.specs.Steps.{needs, carries, words_after, views_after}
use Rattle.core_invariant.specs.Reached.{plain_graph}
use Rattle.core_invariant.specs.Rule.{InRule}
use Rattle.core_invariant.specs.StillRule.{StillRight, KnownRight}
use Rattle.core_invariant.specs.TurnRule.{TurnsRight, LeavesMarked}

-- over the keys and the plain links, the marks and the tags of nodes, and the plain tree
pub record TurnsKept (z : Layout) (g : Graph) (mark : ℕ → ℕ) (tag : Side → ℕ → ℕ) (vs : List View) (plain : NamedTree) : Type 0 where
  pub turns : All (TurnsRight g plain) vs
  pub leaving : All (LeavesMarked mark plain) vs
  pub still : All (StillRight z g tag plain) vs
  pub known : All (KnownRight z g tag) vs

-- the same of the tree that the plain links spell
abbrev pub TurnsAfter : Layout → Memory → List View → Type 0
TurnsAfter z m vs =
    (plain : NamedTree) → IsSpelled (plain_graph m) ((plain_graph m).child Right 0) plain
    → TurnsKept z (plain_graph m) (λ k. m (Node Mark k)) (λ side k. m (Node (Tag side) k)) vs plain

-- an event of this kind that is allowed keeps all of it
abbrev pub KeepsTurnsAt : Kind → Type 0
KeepsTurnsAt kind =
    (z : Layout) (words : List ℕ) (vs : List View) → InRule z words vs → (i : ℕ) (v : View) → IsItem vs i v → v.joined ≡ false
    → (n : ℕ) (w : Word) → word_at z n ≡ Some w → (value : ℕ) (o : Option Update) → carries kind v o ≡ true
    → needs kind z (memory z words) vs i v w value o ≡ true
    → TurnsAfter z (memory z (words_after kind words n value)) (views_after kind z (memory z words) vs i v w value o)
