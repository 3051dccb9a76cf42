-- What reading leaves of the view of a pass.
use Rattle.std.specs.Prelude.{◌≡◌, ℕ, List, Option}
use Rattle.index_words.specs.declared.view.View.{View}
use Rattle.index_words.specs.declared.view.reading.Link.{Link}
use Rattle.index_words.specs.declared.view.reading.Place.{Place}
use Rattle.plan_laws.specs.Frames.{CountsGrow}

-- the view with another place, another number of the entry that it has left, other remembered links, and other counts
-- of entries without a stamp and of changed heads
abbrev pub read_on : View → Place → Option ℕ → List Link → ℕ → ℕ → View
read_on v place above links waits moves = record v {
  reading = record v.reading { place = place; above = above; links = links };
  counts = record v.counts { waits = waits; moves = moves };
}

-- some loads of the tree that the pass reads were made: the view is unchanged but for where the pass stands, the number
-- that it has left, the links that it remembers, and these two counts. No count has fallen
pub record HasRead (v w : View) : Type 0 where
  pub place : Place
  pub above : Option ℕ
  pub links : List Link
  pub waits : ℕ
  pub moves : ℕ
  pub view : w ≡ read_on v place above links waits moves
  pub grown : CountsGrow v w
