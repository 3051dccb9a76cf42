-- What a seat's view shows where it may load a plain link or its tag, and where it may set one.
use Rattle.std.specs.Prelude.{◌≡◌, ℕ, ◌+◌, ◌<◌, ◌≤◌, ◌⊎◌, [], true, Some}
use Rattle.index_words.specs.declared.layout.Layout.{Layout}
use Rattle.index_words.specs.declared.side.Side.{Side}
use Rattle.index_words.specs.declared.side.Side.TheVariants.{Right}
use Rattle.index_words.specs.declared.view.View.{View}
use Rattle.index_words.specs.declared.view.update.HeldNode.{HeldNode}
use Rattle.index_words.specs.declared.view.update.Unlinking.{Unlinking}
use Rattle.index_words.specs.declared.word.Field.TheVariants.{Link, Tag}
use Rattle.index_words.specs.declared.word.Word.TheVariants.{Node}
use Rattle.key_map.specs.Lists.{Every}
use Rattle.core_grace.specs.Batches.{all_passed}
use Rattle.core_events.specs.declared.event.Kind.TheVariants.{LoadLink, SetLink, LoadTag, SetTag}
use Rattle.core_events.specs.PlainNeeds.{sets_to, keeps_order, unlinks_at, owes}
use Rattle.core_events.specs.Searches.{searches_at}
use Rattle.core_events.specs.UpdateNeeds.{held_at, side_of}
use Rattle.core_invariant.specs.Readers.{IsLocked}
use Rattle.core_laws.specs.ViewNeeds.{May, event_at, IsInside, IsKnownMarked}

-- under the lock of the node its mark was found 0
pub record IsHeldUnmarked (v : View) (k : ℕ) : Type 0 where
  pub held : HeldNode
  pub locked : held_at k v.held.nodes ≡ Some held
  pub unmarked : held.mark ≡ Some 0

-- a link of a node that it has locked: the only one of the root, or one of a node that was found unmarked. Nothing is
-- said of what the links of a marked node hold
pub record HasFirmLink (v : View) (k : ℕ) (side : Side) : Type 0 where
  pub locked : IsLocked v k
  pub root : k ≡ 0 → side ≡ Right
  pub unmarked : 0 < k → IsHeldUnmarked v k

-- load of a plain link: inside a section, of such a node, or where its search stands
pub record MayReadLink (v : View) (k : ℕ) (side : Side) : Type 0 where
  pub inside : IsInside v
  pub on : HasFirmLink v k side ⊎ (searches_at v.reading v.reading.place k side ≡ true)

-- load of a tag: inside a section
pub record MayReadTag (v : View) (k : ℕ) : Type 0 where
  pub inside : IsInside v
  pub there : k ≤ v.layout.nodes

-- a successor may be unlinked: the view has locked it and knows that it is marked, and each other pass was passed since
-- its copy was linked
pub record MayUnlink (v : View) (u : Unlinking) : Type 0 where
  pub node : HeldNode
  pub locked : held_at u.successor v.held.nodes ≡ Some node
  pub marked : node.mark ≡ Some 1
  pub passed : all_passed v.layout.passes v.number v.update.waiting.passed ≡ true

-- set link: a node that it has locked, where nothing is pending, each locked node that its update took out is known to
-- be marked, but for a successor that is still to be unlinked, and its update has still to set the link to this child.
-- Where that unlinks a successor, its copy was linked, and each other pass was passed since
pub record MaySetLink (v : View) (k : ℕ) (side : Side) (child : ℕ) : Type 0 where
  pub locked : IsLocked v k
  pub done : v.update.pending ≡ []
  pub marked : Every (IsKnownMarked v.update) v.held.nodes
  pub unset : sets_to k side child v.update.unset ≡ true
  pub order : keeps_order k side v.update ≡ true
  pub waited : (u : Unlinking) → v.update.unlinking ≡ Some u → unlinks_at k side (Some u) ≡ true → MayUnlink v u

-- set tag: a node that it has locked, whose tag it has loaded under the lock, and its update has still to raise it
pub record MaySetTag (v : View) (k : ℕ) (side : Side) (tag : ℕ) : Type 0 where
  pub node : HeldNode
  pub locked : held_at k v.held.nodes ≡ Some node
  pub loaded : (side_of side node).tag ≡ Some tag
  pub owed : owes k side v.update.owed ≡ true

abbrev pub ReadLinkLaw : Type 0
ReadLinkLaw = (z : Layout) (v : View) (seat k : ℕ) (side : Side) → MayReadLink v k side → May z v (event_at z seat LoadLink (Node (Link side) k) 0)

abbrev pub ReadTagLaw : Type 0
ReadTagLaw = (z : Layout) (v : View) (seat k : ℕ) (side : Side) → MayReadTag v k → May z v (event_at z seat LoadTag (Node (Tag side) k) 0)

abbrev pub SetLinkLaw : Type 0
SetLinkLaw =
    (z : Layout) (v : View) (seat k : ℕ) (side : Side) (child : ℕ) → MaySetLink v k side child
    → May z v (event_at z seat SetLink (Node (Link side) k) child)

abbrev pub SetTagLaw : Type 0
SetTagLaw =
    (z : Layout) (v : View) (seat k : ℕ) (side : Side) (tag : ℕ) → MaySetTag v k side tag
    → May z v (event_at z seat SetTag (Node (Tag side) k) (tag + 1))
