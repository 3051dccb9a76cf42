-- What a seat keeps of the words that it fills.
use Rattle.std.specs.Prelude.{ℕ, List, [], ◌∷◌, ◌++◌, cond, not, filter, map}
use Rattle.index_words.specs.declared.side.Side.TheVariants.{Left, Right}
use Rattle.index_words.specs.declared.view.View.{View}
use Rattle.index_words.specs.declared.view.slots.Slots.{Slots}
use Rattle.index_words.specs.declared.view.reading.Filled.{Filled}
use Rattle.index_words.specs.declared.word.Field.TheVariants.{Key, Val, Mark, Head, Link, Tag}
use Rattle.index_words.specs.declared.word.Part.TheVariants.{Child, Stamp as Number, Next}
use Rattle.index_words.specs.declared.word.Word.{Word}
use Rattle.index_words.specs.declared.word.Word.TheVariants.{Node, Entry}
use Rattle.index_words.specs.Words.{same_word}
use Rattle.key_map.specs.Lists.{has}
use Rattle.core_grace.specs.Sections.{is_even}
use Rattle.core_events.specs.UpdateMoves.{without}

-- what was put into other words
abbrev pub filled_other : Word → List Filled → List Filled
filled_other w fs = filter (λ (f : Filled). not (same_word f.word w)) fs

abbrev pub filled_with : List Filled → Word → ℕ → List Filled
filled_with fs w x = filled_other w fs ++ record { word = w; value = x } ∷ []

abbrev pub with_filled : View → List Filled → View
with_filled v fs = record v { reading = record v.reading { filled = fs } }

-- the words of a node except its lock, and those of an entry
abbrev pub node_words : ℕ → List Word
node_words k =
    Node Key k ∷ Node Val k ∷ Node Mark k ∷ Node (Head Left) k ∷ Node (Head Right) k ∷ Node (Link Left) k ∷ Node (Link Right) k ∷ Node (Tag Left) k ∷ Node (Tag Right) k ∷ []

abbrev pub entry_words : ℕ → List Word
entry_words e = Entry Child e ∷ Entry Number e ∷ Entry Next e ∷ []

abbrev pub zeros_in : List Word → List Filled
zeros_in ws = map (λ w. record { word = w; value = 0 }) ws

-- the words of a word's slot hold 0 if the slot was never used
abbrev pub zeros_of : Slots → Word → List Filled
zeros_of unused (Node field k) = cond (has k unused.nodes) (zeros_in (node_words k)) []
zeros_of unused (Entry part e) = cond (has e unused.entries) (zeros_in (entry_words e)) []
zeros_of unused _ = []

-- the slots without the one that has the word
abbrev pub used_slots : Word → Slots → Slots
used_slots (Node field k) s = record { nodes = without k s.nodes; entries = s.entries }
used_slots (Entry part e) s = record { nodes = s.nodes; entries = without e s.entries }
used_slots _ s = s

abbrev pub used_view : View → Word → View
used_view v w = record v { unused = used_slots w v.unused }

-- what is known of filled words before a store: also that the words of a slot that was never used hold 0
abbrev pub known_before : View → Word → List Filled
known_before v w = v.reading.filled ++ zeros_of v.unused w

-- fill: the slot is used from then on. Inside a section the value is kept with the word, in place of the value put in
-- before; outside a section nothing is kept
abbrev pub filled_view : View → Word → ℕ → View
filled_view v w x = cond (is_even v.section_word) (used_view v w) (with_filled (used_view v w) (filled_with (known_before v w) w x))
