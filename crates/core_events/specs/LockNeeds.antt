-- The needs of each kind of event that locks, unlocks or marks, as computed truth values.
use Rattle.std.specs.Prelude.{ℕ, ◌+◌, Bool, true, false, not, ◌==◌, ◌&&◌, ◌||◌, Option, Some, None}
use Rattle.index_words.specs.declared.view.View.{View}
use Rattle.index_words.specs.declared.word.Field.{Field}
use Rattle.index_words.specs.declared.word.Field.TheVariants.{Key, Val, Mark}
use Rattle.index_words.specs.declared.word.Word.{Word}
use Rattle.index_words.specs.declared.word.Word.TheVariants.{Node}
use Rattle.index_words.specs.Words.{Memory}
use Rattle.key_map.specs.Lists.{has}
use Rattle.core_grace.specs.Sections.{is_even}
use Rattle.core_events.specs.Needs.{is_lock, nothing_pending}
use Rattle.core_events.specs.LoadMoves.{locks}
use Rattle.core_events.specs.Searches.{search_nodes}
use Rattle.core_events.specs.PlainNeeds.{is_done_at}

abbrev pub is_mark : Field → Bool
is_mark Mark = true
is_mark _ = false

abbrev pub is_pair : Field → Bool
is_pair Key = true
is_pair Val = true
is_pair _ = false

-- the lock word names the pass
abbrev pub names_pass : Option ℕ → ℕ → Bool
names_pass None word = false
names_pass (Some n) word = word == n + 1

-- the node's lock may be tried: it is the root, or one at which a search on plain links stands, last turned, or found a
-- link that it remembers
abbrev pub may_lock : View → ℕ → Bool
may_lock v k = k == 0 || has k (search_nodes 0 v.reading)

-- try lock: inside a section, of such a node that the seat has not locked; the value names its pass. So a word
-- that is found held is another pass's
abbrev pub may_try_lock : View → Word → ℕ → Bool
may_try_lock v (Node field k) value =
    is_lock field && not (is_even v.section_word) && may_lock v k && not (locks k v.held.nodes) && names_pass v.number value
may_try_lock v _ value = false

-- unlock: the seat has locked the node, nothing is pending, and its update has set the node's plain links and raised
-- their tags
abbrev pub may_unlock : Memory → View → Word → ℕ → Bool
may_unlock m v (Node field k) value = is_lock field && locks k v.held.nodes && nothing_pending m v && is_done_at k v.update && value == 0
may_unlock m v _ value = false

-- load of a mark: inside a section
abbrev pub may_load_mark : View → Word → ℕ → Bool
may_load_mark v (Node field k) value = is_mark field && not (is_even v.section_word) && value == 0
may_load_mark v _ value = false

-- mark: the seat has locked the node, and its update took it out
abbrev pub may_mark : View → Word → ℕ → Bool
may_mark v (Node field k) value = is_mark field && locks k v.held.nodes && has k v.update.taken && value == 1
may_mark v _ value = false

-- load of a key or a value: inside a section. No law uses that; only a test checks it
abbrev pub may_load_pair : View → Word → ℕ → Bool
may_load_pair v (Node field k) value = is_pair field && not (is_even v.section_word) && value == 0
may_load_pair v _ value = false
