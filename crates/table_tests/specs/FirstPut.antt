-- Helper: the clauses of the crate's calls do not rest on this file.
-- The first put of a table of two passes by single steps, as a test makes it: what the pass's view is at its stages.
use Rattle.std.specs.Prelude.{[], false}
use Rattle.index_words.specs.declared.layout.Layout.{Layout}
use Rattle.index_words.specs.declared.side.Side.TheVariants.{Right}
use Rattle.index_words.specs.declared.view.View.{View}
use Rattle.index_words.specs.declared.word.Field.TheVariants.{Key, Val}
use Rattle.index_words.specs.declared.word.Part.TheVariants.{Child}
use Rattle.index_words.specs.declared.word.Word.TheVariants.{Node, Entry}
use Rattle.key_map.specs.declared.pass.PassSize.{PassSize}
use Rattle.core_events.specs.FillMoves.{filled_view}
use Rattle.core_events.specs.Announcing.{announced_view}
use Rattle.core_events.specs.LoadMoves.{head_loaded}
use Rattle.core_events.specs.LockMoves.{locked_view, mark_loaded}
use Rattle.core_events.specs.Moves.{entered}
use Rattle.core_events.specs.Openings.{pass_view}
use Rattle.core_events.specs.PlainMoves.{link_loaded, tag_loaded}
use Rattle.table_steps.specs.Stamps.{with_seen, reading_at}

-- one node, the entries of one update, and one call
abbrev pub one_update : PassSize
one_update = record { nodes = 1; entries = 4; calls = 1 }

abbrev pub two_passes : Layout
two_passes = record { passes = 2; nodes = 2; entries = 8; calls = 2 }

abbrev pub at_start : View
at_start = pass_view two_passes 0 1 1 one_update

-- in its section the pass has seen no update
abbrev pub at_seen : View
at_seen = with_seen [] (entered 2 at_start 1)

-- it has announced so, and has found no update at its second load
abbrev pub at_announced : View
at_announced = announced_view at_seen 1

abbrev pub at_read : View
at_read = reading_at [] at_announced 0 false []

-- it has searched, and has found the root's plain link null, with the tag 0
abbrev pub at_root : View
at_root = tag_loaded (link_loaded at_read 0 Right 0) 0 Right 0

-- it has filled node 1 with key 5 and value 7, and entry 1, which leads to it; the other words of both are 0, since
-- they were never used
abbrev pub at_pair : View
at_pair = filled_view (filled_view (filled_view at_root (Node Key 1) 5) (Node Val 1) 7) (Entry Child 1) 1

-- it has locked the root, has found it unmarked and its plain link still null, with that tag, and its bundle empty
abbrev pub at_unmarked_root : View
at_unmarked_root = mark_loaded (locked_view at_pair 0) 0 0

abbrev pub at_locked_root : View
at_locked_root = head_loaded (tag_loaded (link_loaded at_unmarked_root 0 Right 0) 0 Right 0) 0 Right 0 0
