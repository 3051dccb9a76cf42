-- Notes, and what it is to hear one.
use Rattle.std.specs.Prelude.{◌≡◌, List}
use Rattle.index_words.specs.declared.layout.Layout.{Layout}
use Rattle.index_words.specs.declared.view.View.{View}
use Rattle.index_words.specs.Views.{empty_view}
use Rattle.key_map.specs.declared.update.Update.{Update}
use Rattle.key_map.specs.History.{own_places}
use Rattle.table_rule.specs.Homes.{Sat}
use Rattle.table_rule.specs.Seats.{Split, Join}
use Rattle.table_steps.specs.Passes.{Pass, Extends}

-- the view of a note: without a number, it has seen this much, and owns nothing
abbrev pub note_view : Layout → List Update → View
note_view z seen = record (empty_view z) { history = record (empty_view z).history { seen = seen } }

-- the note is of the pass's table
pub record IsNoteOf (p : Pass) (s : Sat) : Type 0 where
  pub id : s.id ≡ p.id
  pub layout : s.view.layout ≡ p.view.layout

-- the events of a hearing, by a seat with the view `v`, of another one with the view `u`: a copy of the seat is split
-- off, the other one is joined into the seat, and then the copy is; the seat then has the view `w`
pub record Hearing (z : Layout) (v u w : View) : Type 0 where
  pub copy : View
  pub split : Split z v 0 v copy
  pub told : View
  pub first : Join z v u told
  pub second : Join z told copy w

-- the places of the pass's own updates are exactly those at which updates of its number stand in what it has seen
abbrev pub KnowsOwn : Pass → Type 0
KnowsOwn p = p.view.history.mine ≡ own_places p.number p.view.history.seen

-- the view has heard of these updates: what it has seen begins with what it had seen, and with them. Its own updates,
-- its slots, its locks, its snapshot and what it may still do are unchanged
pub record HasHeard (v : View) (news : List Update) (w : View) : Type 0 where
  pub old : Extends v.history.seen w.history.seen
  pub told : Extends news w.history.seen
  pub mine : w.history.mine ≡ v.history.mine
  pub left : w.history.left ≡ v.history.left
  pub looks : w.history.looks ≡ v.history.looks
  pub found : w.history.found ≡ v.history.found
  pub opened : w.reading.opened ≡ v.reading.opened
  pub word : w.section_word ≡ v.section_word
  pub announced : w.announced ≡ v.announced
  pub held : w.held ≡ v.held
  pub free : w.free ≡ v.free
  pub retired : w.retired ≡ v.retired
  pub batch : w.batch ≡ v.batch
