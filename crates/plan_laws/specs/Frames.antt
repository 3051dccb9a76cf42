-- What the steps of an update leave as it was.
use Rattle.std.specs.Prelude.{◌≡◌, ℕ, ◌≤◌}
use Rattle.index_words.specs.declared.side.Side.{Side}
use Rattle.index_words.specs.declared.view.View.{View}
use Rattle.index_words.specs.declared.word.Field.TheVariants.{Key, Val}
use Rattle.index_words.specs.declared.word.Word.{Word}
use Rattle.core_events.specs.FillMoves.{filled_view}
use Rattle.core_events.specs.LoadMoves.{head_loaded, ts_loaded}
use Rattle.core_events.specs.LockMoves.{locked_view, met_lock, mark_loaded, pair_loaded}
use Rattle.core_events.specs.PlainMoves.{link_loaded, tag_loaded}
use Rattle.core_events.specs.UpdateMoves.{prepared}
use Rattle.core_laws.specs.ViewNeeds.{IsInside}

-- what no step between the load of the stamp and the raise changes: what the pass knows of the history and reads, and
-- its slots, but for free entries, which are put in front of bundles
pub record KeepsPass (v w : View) : Type 0 where
  pub layout : w.layout ≡ v.layout
  pub joined : w.joined ≡ v.joined
  pub number : w.number ≡ v.number
  pub word : w.section_word ≡ v.section_word
  pub announced : w.announced ≡ v.announced
  pub history : w.history ≡ v.history
  pub section : w.reading.section ≡ v.reading.section
  pub opened : w.reading.opened ≡ v.reading.opened
  pub least : w.reading.least ≡ v.reading.least
  pub tree : w.reading.tree ≡ v.reading.tree
  pub nodes : w.free.nodes ≡ v.free.nodes
  pub retired : w.retired ≡ v.retired
  pub batch : w.batch ≡ v.batch
  pub raised : w.update.raised ≡ v.update.raised
  pub taken : w.update.taken ≡ v.update.taken

-- what no step after the raise changes, and none of a try that is given up: what the pass knows of the history, its
-- counts and its slots
pub record KeepsOwned (v w : View) : Type 0 where
  pub layout : w.layout ≡ v.layout
  pub joined : w.joined ≡ v.joined
  pub number : w.number ≡ v.number
  pub history : w.history ≡ v.history
  pub counts : w.counts ≡ v.counts
  pub free : w.free ≡ v.free
  pub retired : w.retired ≡ v.retired
  pub batch : w.batch ≡ v.batch

-- the counts do not fall
pub record CountsGrow (v w : View) : Type 0 where
  pub busy : v.counts.busy ≤ w.counts.busy
  pub waits : v.counts.waits ≤ w.counts.waits
  pub moves : v.counts.moves ≤ w.counts.moves

-- what each step of a try keeps: also all its free slots, before it puts an entry in front
pub record KeepsTry (v w : View) : Type 0 where
  pub pass : KeepsPass v w
  pub free : w.free ≡ v.free
  pub grown : CountsGrow v w

pub record StepsKeep (v : View) : Type 0 where
  pub locked : (node : ℕ) → KeepsTry v (locked_view v node)
  pub met : (own found : ℕ) → KeepsTry v (met_lock v own found)
  pub mark : (node x : ℕ) → KeepsTry v (mark_loaded v node x)
  pub link : (node x : ℕ) (side : Side) → KeepsTry v (link_loaded v node side x)
  pub tag : (node x : ℕ) (side : Side) → KeepsTry v (tag_loaded v node side x)
  pub head : (node entry number : ℕ) (side : Side) → KeepsTry v (head_loaded v node side entry number)
  pub number : (entry x : ℕ) → KeepsTry v (ts_loaded v entry x)
  pub key : (node x : ℕ) → KeepsTry v (pair_loaded v Key node x)
  pub val : (node x : ℕ) → KeepsTry v (pair_loaded v Val node x)
  pub filled : (w : Word) (x : ℕ) → IsInside v → KeepsTry v (filled_view v w x)
  pub prepared : (node entry : ℕ) (side : Side) → KeepsPass v (prepared v side node entry)

abbrev pub StepsKeepLaw : Type 0
StepsKeepLaw = (v : View) → StepsKeep v

abbrev pub KeepsPassLaw : Type 0
KeepsPassLaw = (u v w : View) → KeepsPass u v → KeepsPass v w → KeepsPass u w

abbrev pub KeepsTryLaw : Type 0
KeepsTryLaw = (u v w : View) → KeepsTry u v → KeepsTry v w → KeepsTry u w

abbrev pub KeepsOwnedLaw : Type 0
KeepsOwnedLaw = (u v w : View) → KeepsOwned u v → KeepsOwned v w → KeepsOwned u w
