-- The needs of each kind of event: what has to be true of the table for it, as a computed truth value.
use Rattle.std.specs.Prelude.{ℕ, ◌+◌, List, length, Bool, true, false, not, ◌==◌, ◌&&◌, ◌||◌, Option, Some, None, is_none}
use Rattle.std.specs.List.{list_all, slice_get}
use Rattle.index_words.specs.declared.view.View.{View}
use Rattle.index_words.specs.declared.view.update.Unlinking.{Unlinking}
use Rattle.index_words.specs.declared.view.update.Updating.{Updating}
use Rattle.index_words.specs.declared.word.Field.TheVariants.{Lock, Mark}
use Rattle.index_words.specs.declared.word.Field.{Field}
use Rattle.index_words.specs.declared.word.Word.{Word}
use Rattle.index_words.specs.declared.word.Word.TheVariants.{Stamp, Section, Node, Entry}
use Rattle.index_words.specs.Words.{Memory}
use Rattle.key_map.specs.Lists.{has}
use Rattle.core_grace.specs.Batches.{is_empty}
use Rattle.core_grace.specs.Sections.{is_even}

-- outside a section, with no lock held
abbrev pub is_outside : View → Bool
is_outside v = is_even v.section_word && length v.held.nodes == 0

abbrev pub is_marked_node : Memory → ℕ → Bool
is_marked_node m k = m (Node Mark k) == 1

-- the node is a successor that is still to be unlinked
abbrev pub is_successor : ℕ → Option Unlinking → Bool
is_successor k None = false
is_successor k (Some u) = u.successor == k

-- a node that the update took out is marked, or is such a successor
abbrev pub is_marked_out : Memory → Updating → ℕ → Bool
is_marked_out m u k = is_marked_node m k || is_successor k u.unlinking

-- no entry of the view is without a written number, and no node that its update took out is unmarked, except a
-- successor that is still to be unlinked
abbrev pub nothing_pending : Memory → View → Bool
nothing_pending m v = length v.update.pending == 0 && list_all (is_marked_out m v.update) v.update.taken

abbrev pub is_own_section : Option ℕ → Word → Bool
is_own_section (Some n) (Section pass) = pass == n
is_own_section _ _ = false

abbrev pub is_stamp : Word → Bool
is_stamp Stamp = true
is_stamp _ = false

-- enter: outside a section, no lock held
abbrev pub may_enter : View → Word → ℕ → Bool
may_enter v w value = is_own_section v.number w && is_outside v && value == v.section_word + 1

abbrev pub is_lock : Field → Bool
is_lock Lock = true
is_lock _ = false

-- fill: any word but the lock of a free slot of its own
abbrev pub may_fill : View → Word → Bool
may_fill v (Node field k) = not (is_lock field) && has k v.free.nodes
may_fill v (Entry part e) = has e v.free.entries
may_fill v _ = false

-- split: with the first free node, or without one
abbrev pub may_split : View → Word → ℕ → Bool
may_split v w value = is_stamp w && (value == 0 || (value == 1 && not (length v.free.nodes == 0)))

-- no slot of the view waits to become free again
abbrev pub has_none_waiting : View → Bool
has_none_waiting v = is_empty v.retired && is_empty v.batch

-- join: the other seat was not joined away, and has neither a number nor a slot that waits, or both are outside a
-- section with no lock held. So a seat inside a section gets no node into its retired ones that its search may still
-- reach. No law uses that the other one was not joined away; only a test checks it
abbrev pub may_join_view : View → View → Bool
may_join_view v other = not other.joined && ((is_none other.number && has_none_waiting other) || (is_outside v && is_outside other))

abbrev pub may_join_found : View → Option View → Bool
may_join_found v None = false
may_join_found v (Some other) = may_join_view v other

abbrev pub may_join : List View → ℕ → View → Word → ℕ → Bool
may_join views seat v w value = is_stamp w && not (value == seat) && may_join_found v (slice_get views value)
