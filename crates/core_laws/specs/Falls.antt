-- Numbers fall along a bundle: what a load of a number finds after an entry that the seat has gone past.
use Rattle.std.specs.Prelude.{◌≡◌, ℕ, ◌<◌, Option, Some}
use Rattle.key_map.specs.Lists.{IsItem}
use Rattle.index_words.specs.declared.side.Side.{Side}
use Rattle.index_words.specs.declared.view.View.{View}
use Rattle.index_words.specs.declared.view.reading.Place.TheVariants.{Entry as AtEntry}
use Rattle.index_words.specs.declared.word.Part.TheVariants.{Stamp as Number}
use Rattle.index_words.specs.declared.word.Word.TheVariants.{Entry}
use Rattle.core_events.specs.Tables.{Table, held_by}
use Rattle.core_invariant.specs.Readers.{IsWatched}
use Rattle.core_invariant.specs.Rule.{IsRight}

-- the entry's number is written, and below this one
pub record FindsBelow (t : Table) (entry number : ℕ) : Type 0 where
  pub written : 0 < held_by t (Entry Number entry)
  pub below : held_by t (Entry Number entry) < number

-- a seat that stands at an entry of a node that it has locked, or has a section number, and has gone past an entry with
-- this number to reach it: a load of the number finds one above 0 and below
abbrev pub FallsLaw : Type 0
FallsLaw =
    (t : Table) (i : ℕ) (v : View) (node : ℕ) (side : Side) (entry : ℕ) (found : Option ℕ) (number : ℕ) → IsRight t → IsItem t.views i v
    → v.reading.place ≡ AtEntry node side entry found → 0 < entry → IsWatched v node → v.reading.above ≡ Some number → 0 < number
    → FindsBelow t entry number
