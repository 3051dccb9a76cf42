-- The rule on the slots of a view that were never used: their words are 0.
use Rattle.std.specs.Prelude.{◌≡◌, ◌<◌, false}
use Rattle.index_words.specs.declared.view.View.{View}
use Rattle.index_words.specs.declared.view.slots.Slots.{Slots}
use Rattle.index_words.specs.declared.word.Word.{Word}
use Rattle.index_words.specs.declared.word.Word.TheVariants.{Node, Entry}
use Rattle.index_words.specs.Words.{Memory}
use Rattle.key_map.specs.Lists.{count}
use Rattle.core_events.specs.Needs.{is_lock}

-- the word is one of a free node, except its lock, or of a free entry
abbrev pub IsFreeWord : Slots → Word → Type 0
IsFreeWord free (Node field k) = (is_lock field ≡ false) × (0 < count k free.nodes)
IsFreeWord free (Entry part e) = 0 < count e free.entries
IsFreeWord free _ = ⊥

-- its slot was never used
abbrev pub IsUnusedWord : Slots → Word → Type 0
IsUnusedWord unused (Node field k) = 0 < count k unused.nodes
IsUnusedWord unused (Entry part e) = 0 < count e unused.entries
IsUnusedWord unused _ = ⊥

-- each word of a free slot that was never used is 0, except a lock
abbrev pub UnusedRight : Memory → View → Type 0
UnusedRight m v = (w : Word) → IsFreeWord v.free w → IsUnusedWord v.unused w → m w ≡ 0
