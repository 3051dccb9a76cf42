-- The needs of each kind of event of an update, as computed truth values.
use Rattle.std.specs.Prelude.{ℕ, List, length, Bool, false, not, ◌==◌, ◌&&◌, ◌||◌, Option, Some, None, is_none, find, nat_lt}
use Rattle.index_words.specs.declared.layout.Layout.{Layout}
use Rattle.key_map.specs.declared.update.Update.{Update}
use Rattle.index_words.specs.declared.side.Side.{Side}
use Rattle.index_words.specs.declared.side.Side.TheVariants.{Left, Right}
use Rattle.index_words.specs.declared.view.View.{View}
use Rattle.index_words.specs.declared.view.update.HeldNode.{HeldNode}
use Rattle.index_words.specs.declared.view.update.HeldSide.{HeldSide}
use Rattle.index_words.specs.declared.view.update.LoadedHead.{LoadedHead}
use Rattle.index_words.specs.declared.word.Field.{Field}
use Rattle.index_words.specs.declared.word.Field.TheVariants.{Head}
use Rattle.index_words.specs.declared.word.Part.TheVariants.{Stamp as Number, Next}
use Rattle.index_words.specs.declared.word.Word.{Word}
use Rattle.index_words.specs.declared.word.Word.TheVariants.{Node, Entry}
use Rattle.index_words.specs.Words.{Memory}
use Rattle.key_map.specs.Lists.{has}
use Rattle.core_grace.specs.Batches.{is_number}
use Rattle.core_events.specs.Needs.{is_stamp}
use Rattle.core_events.specs.LoadNeeds.{is_part}
use Rattle.core_events.specs.TreeMoves.{is_tree_step}

abbrev pub side_of : Side → HeldNode → HeldSide
side_of Left h = h.left
side_of Right h = h.right

-- a number was loaded, and is not 0
abbrev pub is_written : Option ℕ → Bool
is_written None = false
is_written (Some x) = not (x == 0)

-- the head was loaded: it is 0 or has a written number, and the entry has it as its next
abbrev pub is_next_of : Memory → ℕ → Option LoadedHead → Bool
is_next_of m e None = false
is_next_of m e (Some l) = (l.entry == 0 || is_written l.stamp) && m (Entry Next e) == l.entry

-- the locked node was found unmarked, and the entry may be put in front of its bundle
abbrev pub is_ready : Memory → Side → ℕ → Option HeldNode → Bool
is_ready m side e None = false
is_ready m side e (Some h) = is_number 0 h.mark && is_next_of m e (side_of side h).head

abbrev pub held_at : ℕ → List HeldNode → Option HeldNode
held_at k hs = find (λ (h : HeldNode). h.node == k) hs

-- a number that may name a slot
abbrev pub is_slot_number : ℕ → Bool
is_slot_number e = nat_lt e 4294967296

-- prepare: before the raise, a free entry without a number, at a locked node that is ready
abbrev pub may_prepare_entry : Memory → View → Side → ℕ → ℕ → Bool
may_prepare_entry m v side k e =
    is_none v.update.raised && is_ready m side e (held_at k v.held.nodes) && has e v.free.entries && m (Entry Number e) == 0

abbrev pub may_prepare_head : Memory → View → Field → ℕ → ℕ → Bool
may_prepare_head m v (Head side) k e = is_slot_number e && may_prepare_entry m v side k e
may_prepare_head m v _ k e = false

abbrev pub may_prepare : Memory → View → Word → ℕ → Bool
may_prepare m v (Node field k) e = may_prepare_head m v field k e
may_prepare m v _ e = false

-- raise: the update's tree step is spelled
abbrev pub is_raise_of : Layout → Memory → List View → View → Option Update → Bool
is_raise_of z m vs v None = false
is_raise_of z m vs v (Some u) = is_tree_step z m vs v u

-- and the seat has calls left, has not raised, and has an entry pending
abbrev pub may_raise_number : View → Word → ℕ → Bool
may_raise_number v w value =
    is_stamp w && value == 0 && is_none v.update.raised && not (v.history.left == 0) && not (length v.update.pending == 0)

abbrev pub may_raise : Layout → Memory → List View → View → Word → ℕ → Option Update → Bool
may_raise z m vs v w value update = may_raise_number v w value && is_raise_of z m vs v update

-- finalise: a pending entry of its own, and the number of its raise
abbrev pub may_finalise : View → Word → ℕ → Bool
may_finalise v (Entry p e) value = is_part Number p && has e v.update.pending && is_number value v.update.raised
may_finalise v _ value = false
