-- The needs of each kind of event that loads or stores a plain link or its tag, as computed truth values.
use Rattle.std.specs.Prelude.{ℕ, ◌+◌, List, Bool, true, false, not, ◌==◌, ◌&&◌, ◌||◌, Option, Some, None}
use Rattle.std.specs.List.{list_any}
use Rattle.index_words.specs.declared.layout.Layout.{Layout}
use Rattle.index_words.specs.declared.side.Side.{Side}
use Rattle.index_words.specs.declared.view.View.{View}
use Rattle.index_words.specs.declared.view.update.OwedTag.{OwedTag}
use Rattle.index_words.specs.declared.view.update.Unlinking.{Unlinking}
use Rattle.index_words.specs.declared.view.update.UnsetLink.{UnsetLink}
use Rattle.index_words.specs.declared.view.update.Updating.{Updating}
use Rattle.index_words.specs.declared.word.Field.{Field}
use Rattle.index_words.specs.declared.word.Field.TheVariants.{Link, Tag}
use Rattle.index_words.specs.declared.word.Word.{Word}
use Rattle.index_words.specs.declared.word.Word.TheVariants.{Node}
use Rattle.index_words.specs.Words.{Memory, same_side}
use Rattle.core_grace.specs.Batches.{all_passed}
use Rattle.core_grace.specs.Sections.{is_even}
use Rattle.core_events.specs.Needs.{is_marked_node, is_successor, nothing_pending}
use Rattle.core_events.specs.LoadMoves.{locks}
use Rattle.core_events.specs.Searches.{searches_at}

abbrev pub is_tag : Field → Bool
is_tag (Tag side) = true
is_tag _ = false

-- load of a plain link: inside a section, where the seat's search stands, or of a node that it has locked
abbrev pub may_load_link_at : View → Field → ℕ → Bool
may_load_link_at v (Link side) k = not (is_even v.section_word) && (locks k v.held.nodes || searches_at v.reading v.reading.place k side)
may_load_link_at v _ k = false

abbrev pub may_load_link : View → Word → ℕ → Bool
may_load_link v (Node field k) value = may_load_link_at v field k && value == 0
may_load_link v _ value = false

-- load of a tag: inside a section
abbrev pub may_load_tag : View → Word → ℕ → Bool
may_load_tag v (Node field k) value = is_tag field && not (is_even v.section_word) && value == 0
may_load_tag v _ value = false

-- a link that is to be set is this one
abbrev pub is_link_of : ℕ → Side → UnsetLink → Bool
is_link_of k side u = u.node == k && same_side u.side side

-- the update still has to set the link, to this child
abbrev pub sets_to : ℕ → Side → ℕ → List UnsetLink → Bool
sets_to k side child us = list_any (λ (u : UnsetLink). is_link_of k side u && u.child == child) us

-- the link is that to a successor which is to be unlinked
abbrev pub unlinks_at : ℕ → Side → Option Unlinking → Bool
unlinks_at k side None = false
unlinks_at k side (Some u) = u.parent == k && same_side u.side side

-- a link other than this one is still to be set
abbrev pub sets_others : ℕ → Side → List UnsetLink → Bool
sets_others k side us = list_any (λ (u : UnsetLink). not (is_link_of k side u)) us

-- a successor is unlinked last, when its copy is linked
abbrev pub keeps_order : ℕ → Side → Updating → Bool
keeps_order k side u = not (unlinks_at k side u.unlinking && sets_others k side u.unset)

-- a successor may be unlinked: it is marked, and every other pass was passed since its copy was linked
abbrev pub may_unlink : Layout → Memory → View → Option Unlinking → Bool
may_unlink z m v None = true
may_unlink z m v (Some u) = is_marked_node m u.successor && all_passed z.passes v.number v.update.waiting.passed

-- the link is not the one to a successor, or the successor may be unlinked
abbrev pub may_unlink_at : Layout → Memory → View → ℕ → Side → Bool
may_unlink_at z m v k side = not (unlinks_at k side v.update.unlinking) || may_unlink z m v v.update.unlinking

-- set link: the seat has locked the node, nothing is pending, and its update still has to set the link to this child
abbrev pub may_set_field : Layout → Memory → View → Field → ℕ → ℕ → Bool
may_set_field z m v (Link side) k child =
    locks k v.held.nodes && nothing_pending m v && sets_to k side child v.update.unset && keeps_order k side v.update && may_unlink_at z m v k side
may_set_field z m v _ k child = false

abbrev pub may_set_link : Layout → Memory → View → Word → ℕ → Bool
may_set_link z m v (Node field k) child = may_set_field z m v field k child
may_set_link z m v _ child = false

abbrev pub is_owed_at : ℕ → Side → OwedTag → Bool
is_owed_at k side o = o.node == k && same_side o.side side

-- the update still has to raise the tag
abbrev pub owes : ℕ → Side → List OwedTag → Bool
owes k side os = list_any (is_owed_at k side) os

-- set tag: the seat has locked the node, its update still has to raise the tag, and the value is one more
abbrev pub may_raise_tag : Memory → View → Field → ℕ → ℕ → Bool
may_raise_tag m v (Tag side) k value = locks k v.held.nodes && owes k side v.update.owed && value == m (Node (Tag side) k) + 1
may_raise_tag m v _ k value = false

abbrev pub may_set_tag : Memory → View → Word → ℕ → Bool
may_set_tag m v (Node field k) value = may_raise_tag m v field k value
may_set_tag m v _ value = false

-- the update has set all links of the node and raised all its tags, and the node is no successor that is still to be
-- unlinked
abbrev pub is_done_at : ℕ → Updating → Bool
is_done_at k u =
    not (list_any (λ (x : UnsetLink). x.node == k) u.unset) && not (list_any (λ (o : OwedTag). o.node == k) u.owed) && not (is_successor k u.unlinking)
