-- Steps of the running table as events of the pure machine. Of what the other seats have done, only what the rule and
-- the seat's own view say is known.
use Rattle.std.specs.Prelude.{◌≡◌, ℕ, List, slice_index, true, Some, ⊤}
use Rattle.std.specs.List.{slice_get}
use Rattle.index_words.specs.declared.layout.Layout.{Layout}
use Rattle.index_words.specs.declared.view.View.{View}
use Rattle.index_words.specs.declared.word.Word.{Word}
use Rattle.index_words.specs.Words.{address}
use Rattle.core_events.specs.declared.event.Event.{Event}
use Rattle.core_events.specs.declared.event.Kind.{Kind}
use Rattle.core_invariant.specs.Rule.{InRule}
use Rattle.core_events.specs.Steps.{allowed, after}
use Rattle.core_events.specs.Tables.{Table}
use Rattle.core_events.specs.WordMoves.{Move, move_of}
use Rattle.core_events.specs.WordMoves.Move.{Load, Store}

abbrev pub table : Layout → List ℕ → List View → Table
table z words views = record { layout = z; words = words; views = views }

-- some table that meets the rule has a seat with this view
pub record Stands (z : Layout) (v : View) : Type 0 where
  pub words : List ℕ
  pub views : List View
  pub rule : InRule z words views
  pub seat : ℕ
  pub at : slice_get views seat ≡ Some v

-- such a table holds `n` at the word of this number
pub record Holds (z : Layout) (v : View) (at n : ℕ) : Type 0 where
  pub stands : Stands z v
  pub found : n ≡ slice_index stands.words at

-- it holds `n` at this word
abbrev pub HoldsAt : Layout → View → Word → ℕ → Type 0
HoldsAt z v w n = Holds z v (address z w) n

-- the event has happened: in a table that met the rule the seat had the view `v`, the event was allowed, its word held
-- `n`, and in the table after it the seat has the view `w`
pub record Happened (z : Layout) (e : Event) (v : View) (n : ℕ) (w : View) : Type 0 where
  pub words : List ℕ
  pub views : List View
  pub rule : InRule z words views
  pub seat : slice_get views e.seat ≡ Some v
  pub met : allowed (table z words views) e ≡ true
  pub found : n ≡ slice_index words e.word
  pub view : slice_get (after (table z words views) e).views e.seat ≡ Some w

-- the same without the word found, which a store does not report
abbrev pub Stored : Layout → Event → View → View → Type 0
Stored z e v w = (n : ℕ) × Happened z e v n w

abbrev pub IsLoadMove : Move → Type 0
IsLoadMove Load = ⊤
IsLoadMove _ = ⊥

abbrev pub IsStoreMove : Move → Type 0
IsStoreMove Store = ⊤
IsStoreMove _ = ⊥

-- the kinds that load a word and leave it as it is
abbrev pub IsLoad : Kind → Type 0
IsLoad kind = IsLoadMove (move_of kind)

-- the kinds that store their value
abbrev pub IsStore : Kind → Type 0
IsStore kind = IsStoreMove (move_of kind)
