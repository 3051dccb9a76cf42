-- The running table and its seats as plain data.
use Rattle.std.specs.Prelude.{◌≡◌, ℕ, true, false}
use Rattle.index_words.specs.declared.layout.Layout.{Layout}
use Rattle.index_words.specs.declared.view.View.{View}
use Rattle.index_words.specs.declared.word.Word.{Word}
use Rattle.index_words.specs.Words.{address, is_there}
use Rattle.core_events.specs.declared.event.Event.{Event}
use Rattle.core_laws.specs.ViewNeeds.{May}
use Rattle.atomic_table.specs.Seated.{TableId}
use Rattle.table_rule.specs.Running.{Stands}

-- which table it is
pub record Home : Type 0 where
  pub id : TableId
  pub layout : Layout

-- a seat: its table, its number there, and what it knows
pub record Sat : Type 0 where
  pub id : TableId
  pub seat : ℕ
  pub view : View

-- the seat is one of this table
pub record IsOf (home : Home) (s : Sat) : Type 0 where
  pub id : s.id ≡ home.id
  pub layout : s.view.layout ≡ home.layout

-- the seat with another view
abbrev pub with_view : Sat → View → Sat
with_view s w = record { id = s.id; seat = s.seat; view = w }

-- the view was not joined into another one, and some table that meets the rule has a seat with it
pub record IsLiveView (v : View) : Type 0 where
  pub live : v.joined ≡ false
  pub stands : Stands v.layout v

-- what a move of this word asks, so that it is this event of the seat: whatever the words and the other views are, the
-- event is allowed
pub record Asks (home : Home) (s : Sat) (w : Word) (e : Event) : Type 0 where
  pub of : IsOf home s
  pub there : is_there home.layout w ≡ true
  pub seat : e.seat ≡ s.seat
  pub word : e.word ≡ address home.layout w
  pub may : May home.layout s.view e
