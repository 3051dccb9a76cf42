-- The wait of a removal. If the successor of a removed node with two children is not its right child, its copy is
-- linked first. The successor stays where it is until every other pass has been outside a section since: a pass that
-- was on its way to it still finds it. The update waits for that outside of a section itself, with two locks held, the
-- successor's and its parent's.
use Rattle.std.specs.Prelude.{ℕ, List, length, cond, Bool, false, not, ◌==◌, ◌&&◌, ◌||◌, Option, Some, None, is_some}
use Rattle.std.specs.List.{list_all}
use Rattle.index_words.specs.declared.view.View.{View}
use Rattle.index_words.specs.declared.view.update.HeldNode.{HeldNode}
use Rattle.index_words.specs.declared.view.update.Unlinking.{Unlinking}
use Rattle.index_words.specs.declared.view.update.Updating.{Updating}
use Rattle.index_words.specs.declared.word.Word.{Word}
use Rattle.index_words.specs.declared.word.Word.TheVariants.{Section}
use Rattle.index_words.specs.Words.{Memory}
use Rattle.key_map.specs.Lists.{has}
use Rattle.core_grace.specs.Batches.{is_empty, is_number, looked, looked_at}
use Rattle.core_grace.specs.Sections.{is_even, left_word}
use Rattle.core_events.specs.Needs.{is_own_section, nothing_pending}
use Rattle.core_events.specs.PlainNeeds.{sets_others}

-- a lock that is kept over the wait: of the successor, which the update took out, or of its parent, which was found
-- unmarked
abbrev pub keeps_lock : List ℕ → Unlinking → HeldNode → Bool
keeps_lock taken u h = (h.node == u.successor && has h.node taken) || (h.node == u.parent && is_number 0 h.mark)

abbrev pub is_waiting_for : Updating → List HeldNode → Option Unlinking → Bool
is_waiting_for update hs None = false
is_waiting_for update hs (Some u) =
    is_some update.raised && not (sets_others u.parent u.side update.unset) && list_all (keeps_lock update.taken u) hs

-- the view's update waits to unlink a successor: every other link is set, and no other lock is held than these two
abbrev pub is_waiting : View → Bool
is_waiting v = is_waiting_for v.update v.held.nodes v.update.unlinking

abbrev pub has_no_lock : View → Bool
has_no_lock v = length v.held.nodes == 0

-- leave: inside a section, nothing pending, and no lock held except at the wait. With no lock held nothing is pending
-- under the rule, so that this part then refuses nothing more
abbrev pub may_leave : Memory → View → Word → ℕ → Bool
may_leave m v w value =
    is_own_section v.number w && not (is_even v.section_word) && (has_no_lock v || is_waiting v) && nothing_pending m v && value == left_word v.section_word

-- what a look is for: if no lock is held, retired slots or a batch; if locks are held, the wait. No law uses that there
-- are such slots; only a test checks it
abbrev pub has_to_look : View → Bool
has_to_look v = cond (has_no_lock v) (not (is_empty v.batch && is_empty v.retired)) (is_waiting v)

-- look at a section: another pass's, from outside a section
abbrev pub may_look_at : View → ℕ → ℕ → Bool
may_look_at v pass value = not (is_number pass v.number) && is_even v.section_word && has_to_look v && value == 0

abbrev pub may_look : View → Word → ℕ → Bool
may_look v (Section pass) value = may_look_at v pass value
may_look v _ value = false

-- a look at the wait: the pass is passed or its word is noted in the update; no batch is taken, and none becomes free
abbrev pub looked_waiting : View → ℕ → ℕ → View
looked_waiting v pass word = record v { update = record v.update { waiting = looked_at v.update.waiting pass word } }

-- the view after a look that found `word` as the section word of a pass
abbrev pub looked_by : ℕ → View → ℕ → ℕ → View
looked_by passes v pass word = cond (has_no_lock v) (looked passes v pass word) (looked_waiting v pass word)
