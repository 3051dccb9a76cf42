-- The view of a seat after each kind of event that loads or stores a plain link or its tag.
use Rattle.std.specs.Prelude.{ℕ, List, Bool, cond, not, ◌==◌, ◌&&◌, Option, Some, None, map, filter}
use Rattle.index_words.specs.declared.side.Side.{Side}
use Rattle.index_words.specs.declared.side.Side.TheVariants.{Left, Right}
use Rattle.index_words.specs.declared.view.View.{View}
use Rattle.index_words.specs.declared.view.update.HeldNode.{HeldNode}
use Rattle.index_words.specs.declared.view.update.OwedTag.{OwedTag}
use Rattle.index_words.specs.declared.view.update.Unlinking.{Unlinking}
use Rattle.index_words.specs.declared.view.update.UnsetLink.{UnsetLink}
use Rattle.core_events.specs.LoadMoves.{raised_if}
use Rattle.core_events.specs.Searches.{searches_at, walked, with_tag, has_other_child, has_other_tag, knows_link, knows_tag}
use Rattle.core_events.specs.PlainNeeds.{is_link_of, unlinks_at, is_owed_at}

abbrev pub link_known : Side → ℕ → HeldNode → HeldNode
link_known Left x h = record h { left = record h.left { link = Some x } }
link_known Right x h = record h { right = record h.right { link = Some x } }

abbrev pub tag_known : Side → ℕ → HeldNode → HeldNode
tag_known Left x h = record h { left = record h.left { tag = Some x } }
tag_known Right x h = record h { right = record h.right { tag = Some x } }

abbrev pub link_known_at : ℕ → Side → ℕ → HeldNode → HeldNode
link_known_at k side x h = cond (h.node == k) (link_known side x h) h

abbrev pub tag_known_at : ℕ → Side → ℕ → HeldNode → HeldNode
tag_known_at k side x h = cond (h.node == k) (tag_known side x h) h

-- the link is known with a locked node
abbrev pub link_kept : View → ℕ → Side → ℕ → View
link_kept v k side x = record v { held = record v.held { nodes = map (link_known_at k side x) v.held.nodes } }

abbrev pub tag_kept : View → ℕ → Side → ℕ → View
tag_kept v k side x = record v { held = record v.held { nodes = map (tag_known_at k side x) v.held.nodes } }

-- the word differs from what a search found there, and this seat has not stored it
abbrev pub link_moved : View → ℕ → Side → ℕ → Bool
link_moved v k side x = has_other_child v.reading.links k side x && not (knows_link v.held.nodes k side x)

abbrev pub tag_moved : View → ℕ → Side → ℕ → Bool
tag_moved v k side x = has_other_tag v.reading.links k side x && not (knows_tag v.held.nodes k side x)

-- load of a plain link: a search that stands there goes on; the link is kept with a locked node, and one that another
-- seat has set is counted
abbrev pub link_loaded : View → ℕ → Side → ℕ → View
link_loaded v k side x = record (link_kept v k side x) {
  reading = walked (searches_at v.reading v.reading.place k side) v.reading k side x;
  counts = record v.counts { moves = raised_if (link_moved v k side x) v.counts.moves };
}

-- load of a tag: it is kept with a plain link that is remembered without one, and with a locked node
abbrev pub tag_loaded : View → ℕ → Side → ℕ → View
tag_loaded v k side x = record (tag_kept v k side x) {
  reading = record v.reading { links = map (with_tag k side x) v.reading.links };
  counts = record v.counts { moves = raised_if (tag_moved v k side x) v.counts.moves };
}

abbrev pub other_links : ℕ → Side → List UnsetLink → List UnsetLink
other_links k side us = filter (λ (u : UnsetLink). not (is_link_of k side u)) us

abbrev pub other_tags : ℕ → Side → List OwedTag → List OwedTag
other_tags k side os = filter (λ (o : OwedTag). not (is_owed_at k side o)) os

-- a successor that was unlinked no longer waits
abbrev pub still_unlinking : ℕ → Side → Option Unlinking → Option Unlinking
still_unlinking k side u = cond (unlinks_at k side u) None u

-- set link: it is known, and is set
abbrev pub link_set : View → ℕ → Side → ℕ → View
link_set v k side child = record (link_kept v k side child) {
  update = record v.update { unset = other_links k side v.update.unset; unlinking = still_unlinking k side v.update.unlinking };
}

-- set tag: it is known, and is raised
abbrev pub tag_set : View → ℕ → Side → ℕ → View
tag_set v k side x = record (tag_kept v k side x) { update = record v.update { owed = other_tags k side v.update.owed } }
