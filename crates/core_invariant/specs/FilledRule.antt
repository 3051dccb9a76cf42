-- The rule on filled words: what a seat has put into the words of its own slots is what they hold.
use Rattle.std.specs.Prelude.{◌≡◌, ℕ, ◌<◌, ◌⊎◌, false, None}
use Rattle.index_words.specs.declared.view.View.{View}
use Rattle.index_words.specs.declared.view.slots.Slots.{Slots}
use Rattle.index_words.specs.declared.view.reading.Filled.{Filled}
use Rattle.index_words.specs.declared.view.update.Updating.{Updating}
use Rattle.index_words.specs.declared.word.Word.{Word}
use Rattle.index_words.specs.declared.word.Word.TheVariants.{Node, Entry}
use Rattle.index_words.specs.Words.{Memory}
use Rattle.key_map.specs.Lists.{count, IsItem}
use Rattle.core_events.specs.Needs.{is_lock}
use Rattle.core_events.specs.Tables.{Table, held_by}

-- the word is one of a seat's own slots: of a free node, except its lock, of a free entry, or of an entry that is
-- pending before the raise
abbrev pub IsOwnSlotWord : Slots → Updating → Word → Type 0
IsOwnSlotWord free u (Node field k) = (is_lock field ≡ false) × (0 < count k free.nodes)
IsOwnSlotWord free u (Entry part e) = (0 < count e free.entries) ⊎ ((u.raised ≡ None) × (0 < count e u.pending))
IsOwnSlotWord free u _ = ⊥

-- as long as it is one, it holds the last value put into it
abbrev pub FilledRight : Memory → Slots → Updating → Filled → Type 0
FilledRight m free u f = IsOwnSlotWord free u f.word → m f.word ≡ f.value

-- the same for each filled word of each seat of a table
abbrev pub KnowsFilled : Table → Type 0
KnowsFilled t =
    (i j : ℕ) (v : View) (f : Filled) → IsItem t.views i v → IsItem v.reading.filled j f → IsOwnSlotWord v.free v.update f.word → held_by t f.word ≡ f.value
