-- What each kind of event does to its word.
use Rattle.std.specs.Prelude.{ℕ, ◌+◌, List, cond, slice_set, slice_index, ◌==◌}
use Rattle.core_events.specs.declared.event.Kind.{Kind}
use Rattle.core_events.specs.declared.event.Kind.TheVariants.{MakeSeat, SplitSeat, JoinSeat, LookSec, LoadStamp, LoadHead, LoadTs, LoadPtr, LoadNext, Raise, TryLock, LoadMark, LoadKeyOrVal, LookAnn, LoadLink, LoadTag}

-- an event leaves its word, puts its value there, adds one, puts its value there if the word holds 0, or moves seats
-- and no word
pub data Move : Type 0 where
  Load : Move
  Store : Move
  Add : Move
  Swap : Move
  Seats : Move

abbrev pub move_of : Kind → Move
move_of MakeSeat = Seats
move_of SplitSeat = Seats
move_of JoinSeat = Seats
move_of Raise = Add
move_of TryLock = Swap
move_of LookSec = Load
move_of LoadStamp = Load
move_of LoadHead = Load
move_of LoadTs = Load
move_of LoadPtr = Load
move_of LoadNext = Load
move_of LoadMark = Load
move_of LoadKeyOrVal = Load
move_of LookAnn = Load
move_of LoadLink = Load
move_of LoadTag = Load
move_of _ = Store

-- the words after such a move of the word of this number
abbrev pub words_moved : Move → List ℕ → ℕ → ℕ → List ℕ
words_moved Store words at value = slice_set words at value
words_moved Add words at value = slice_set words at (slice_index words at + 1)
words_moved Swap words at value = cond (slice_index words at == 0) (slice_set words at value) words
words_moved _ words at value = words
