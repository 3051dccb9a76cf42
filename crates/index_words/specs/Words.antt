-- The words of the table by name, where each of them stands, and the memory that a list of words makes up.
use Rattle.std.specs.Prelude.{◌≡◌, ℕ, ◌+◌, ◌-◌, ◌*◌, ◌/◌, ◌%◌, cond, if◌then◌else◌, List, length, nat_lt, nat_le, ◌==◌, ◌&&◌, Bool, true, false, slice_index, slice_set, Option, Some, None}
use Rattle.index_words.specs.declared.layout.Layout.{Layout}
use Rattle.index_words.specs.declared.side.Side.{Side}
use Rattle.index_words.specs.declared.side.Side.TheVariants.{Left, Right}
use Rattle.index_words.specs.declared.word.Field.{Field}
use Rattle.index_words.specs.declared.word.Field.TheVariants.{Key, Val, Lock, Mark, Head, Link, Tag}
use Rattle.index_words.specs.declared.word.Part.{Part}
use Rattle.index_words.specs.declared.word.Part.TheVariants.{Child, Stamp as Number, Next}
use Rattle.index_words.specs.declared.word.Word.{Word}
use Rattle.index_words.specs.declared.word.Word.TheVariants.{Stamp, Section, Announced, Node, Entry}

abbrev pub side_number : Side → ℕ
side_number Left = 0
side_number Right = 1

-- the place of a field among the ten of its node
abbrev pub field_number : Field → ℕ
field_number Key = 0
field_number Val = 1
field_number Lock = 2
field_number Mark = 3
field_number (Head s) = 4 + side_number s
field_number (Link s) = 6 + side_number s
field_number (Tag s) = 8 + side_number s

-- the place of a part among the three of its entry
abbrev pub part_number : Part → ℕ
part_number Child = 0
part_number Number = 1
part_number Next = 2

-- where the words of the nodes begin, and those of the entries
abbrev pub nodes_begin : Layout → ℕ
nodes_begin z = 1 + 2 * z.passes

abbrev pub entries_begin : Layout → ℕ
entries_begin z = nodes_begin z + 10 * (z.nodes + 1)

-- how many words there are
abbrev pub word_count : Layout → ℕ
word_count z = entries_begin z + 3 * z.entries

-- the number of a word; entries are counted from 1
abbrev pub address : Layout → Word → ℕ
address z Stamp = 0
address z (Section i) = 1 + i
address z (Announced i) = 1 + z.passes + i
address z (Node f k) = nodes_begin z + 10 * k + field_number f
address z (Entry p e) = entries_begin z + 3 * (e - 1) + part_number p

-- the table has this word
abbrev pub is_there : Layout → Word → Bool
is_there z Stamp = true
is_there z (Section i) = nat_lt i z.passes
is_there z (Announced i) = nat_lt i z.passes
is_there z (Node f k) = nat_le k z.nodes
is_there z (Entry p e) = nat_lt 0 e && nat_le e z.entries

abbrev pub same_side : Side → Side → Bool
same_side Left Left = true
same_side Right Right = true
same_side _ _ = false

abbrev pub same_field : Field → Field → Bool
same_field Key Key = true
same_field Val Val = true
same_field Lock Lock = true
same_field Mark Mark = true
same_field (Head s) (Head t) = same_side s t
same_field (Link s) (Link t) = same_side s t
same_field (Tag s) (Tag t) = same_side s t
same_field _ _ = false

abbrev pub same_part : Part → Part → Bool
same_part Child Child = true
same_part Number Number = true
same_part Next Next = true
same_part _ _ = false

abbrev pub same_word : Word → Word → Bool
same_word Stamp Stamp = true
same_word (Section i) (Section j) = i == j
same_word (Announced i) (Announced j) = i == j
same_word (Node f k) (Node g l) = same_field f g && k == l
same_word (Entry p e) (Entry q d) = same_part p q && e == d
same_word _ _ = false

-- what a table holds: a number for each word
abbrev pub Memory : Type 0
Memory = Word → ℕ

-- what the words of a list hold, and 0 for a word that the table does not have
abbrev pub memory : Layout → List ℕ → Memory
memory z words w = cond (is_there z w) (slice_index words (address z w)) 0

-- the memory with a new value at one word
abbrev pub written : Memory → Word → ℕ → Memory
written m w x v = cond (same_word v w) x (m v)

-- a store at the number of a word changes exactly that word
abbrev pub StoreLaw : Type 0
StoreLaw = (z : Layout) (words : List ℕ) (w : Word) (x : ℕ) → length words ≡ word_count z → is_there z w ≡ true
    → memory z (slice_set words (address z w) x) ≡ written (memory z words) w x

-- the word of a number
abbrev pub field_at : ℕ → Field
field_at n =
    if n == 0 then Key else if n == 1 then Val else if n == 2 then Lock else if n == 3 then Mark
    else if n == 4 then Head Left else if n == 5 then Head Right else if n == 6 then Link Left else if n == 7 then Link Right
    else if n == 8 then Tag Left else Tag Right

abbrev pub part_at : ℕ → Part
part_at n = if n == 0 then Child else if n == 1 then Number else Next

abbrev pub word_at : Layout → ℕ → Option Word
word_at z n =
    if n == 0 then Some Stamp
    else if nat_le n z.passes then Some (Section (n - 1))
    else if nat_lt n (nodes_begin z) then Some (Announced (n - 1 - z.passes))
    else if nat_lt n (entries_begin z) then Some (Node (field_at ((n - nodes_begin z) % 10)) ((n - nodes_begin z) / 10))
    else if nat_lt n (word_count z) then Some (Entry (part_at ((n - entries_begin z) % 3)) ((n - entries_begin z) / 3 + 1))
    else None
