-- A parcel: one node slot on its way from a pass to another, and what a pass lends and adopts.
use Rattle.std.specs.Prelude.{◌≡◌, ℕ, List, [], ◌∷◌, ◌++◌, get_or}
use Rattle.index_words.specs.declared.layout.Layout.{Layout}
use Rattle.index_words.specs.declared.view.View.{View}
use Rattle.key_map.specs.declared.update.Update.{Update}
use Rattle.table_rule.specs.Homes.{Sat}
use Rattle.table_steps.specs.Notes.{note_view}
use Rattle.table_steps.specs.Passes.{Pass, Extends}

-- the view of a parcel: that of a note, which owns one free node
abbrev pub parcel_view : Layout → List Update → ℕ → View
parcel_view z seen node = record (note_view z seen) { free = record { nodes = node ∷ []; entries = [] } }

-- which node it is
abbrev pub parcel_node : Sat → ℕ
parcel_node s = get_or s.view.free.nodes 0 0

-- the parcel is of the pass's table
pub record IsParcelOf (p : Pass) (s : Sat) : Type 0 where
  pub id : s.id ≡ p.id
  pub layout : s.view.layout ≡ p.view.layout

-- a node was lent or adopted. What the view has seen goes on; its own updates, its entries, what is retired or waits,
-- its locks, its snapshot and what it may still do are unchanged
pub record HasTraded (v w : View) : Type 0 where
  pub seen : Extends v.history.seen w.history.seen
  pub mine : w.history.mine ≡ v.history.mine
  pub left : w.history.left ≡ v.history.left
  pub looks : w.history.looks ≡ v.history.looks
  pub found : w.history.found ≡ v.history.found
  pub opened : w.reading.opened ≡ v.reading.opened
  pub word : w.section_word ≡ v.section_word
  pub announced : w.announced ≡ v.announced
  pub held : w.held ≡ v.held
  pub entries : w.free.entries ≡ v.free.entries
  pub retired : w.retired ≡ v.retired
  pub batch : w.batch ≡ v.batch

-- the first free node was lent
pub record HasLent (v : View) (node : ℕ) (w : View) : Type 0 where
  pub traded : HasTraded v w
  pub nodes : v.free.nodes ≡ node ∷ w.free.nodes

-- a node was adopted, and is free
pub record HasAdopted (v : View) (node : ℕ) (w : View) : Type 0 where
  pub traded : HasTraded v w
  pub nodes : w.free.nodes ≡ v.free.nodes ++ node ∷ []
