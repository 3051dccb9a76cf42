-- The fields of a view in groups: what the parts of the rule read and the kinds of events touch.
use Rattle.std.proofs.Common.{ℕ, List, Bool, Option}
use Rattle.index_words.specs.declared.layout.Layout.{Layout}
use Rattle.index_words.specs.declared.view.View.{View}
use Rattle.index_words.specs.declared.view.history.SeenHistory.{SeenHistory}
use Rattle.index_words.specs.declared.view.history.Counts.{Counts}
use Rattle.index_words.specs.declared.view.reading.TreeNode.{TreeNode}
use Rattle.index_words.specs.declared.view.reading.Link.{Link as ViewLink}
use Rattle.index_words.specs.declared.view.reading.Turn.{Turn}
use Rattle.index_words.specs.declared.view.reading.Filled.{Filled}
use Rattle.index_words.specs.declared.view.reading.Place.{Place}
use Rattle.index_words.specs.declared.view.slots.Slots.{Slots}
use Rattle.index_words.specs.declared.view.slots.Looks.{Looks}
use Rattle.index_words.specs.declared.view.update.HeldNode.{HeldNode}
use Rattle.index_words.specs.declared.view.update.HeldNext.{HeldNext}
use Rattle.index_words.specs.declared.view.update.UnsetLink.{UnsetLink}
use Rattle.index_words.specs.declared.view.update.OwedTag.{OwedTag}
use Rattle.index_words.specs.declared.view.update.Unlinking.{Unlinking}
use Rattle.core_grace.specs.Holds.{held_slots}

-- the groups of a view's fields
pub data Group : Type 0 where
  Owner : Group
  Inside : Group
  Announcing : Group
  History : Group
  Counting : Group
  Snapshot : Group
  Tree : Group
  Standing : Group
  Links : Group
  Turns : Group
  Looking : Group
  Filling : Group
  Nodes : Group
  Locks : Group
  Nexts : Group
  Change : Group
  Pending : Group
  Unset : Group
  Owed : Group
  Leaving : Group
  Waiting : Group
  Free : Group
  Retired : Group
  Grace : Group
  Unused : Group

pub record OwnerPart : Type 0 where
  pub joined : Bool
  pub layout : Layout
  pub number : Option ℕ
  pub to_give : List ℕ

pub record ChangePart : Type 0 where
  pub raised : Option ℕ
  pub added : Option ℕ
  pub taken : List ℕ

abbrev pub PartOf : Group → Type 0
PartOf Owner = OwnerPart
PartOf History = SeenHistory
PartOf Counting = Counts
PartOf Snapshot = Option ℕ × Option ℕ
PartOf Tree = List TreeNode
PartOf Standing = Place × Option ℕ
PartOf Links = List ViewLink
PartOf Turns = Option Turn × Option Turn
PartOf Looking = Option ℕ × List ℕ
PartOf Filling = List Filled
PartOf Nodes = List HeldNode
PartOf Locks = List ℕ
PartOf Nexts = List HeldNext
PartOf Change = ChangePart
PartOf Pending = List ℕ
PartOf Unset = List UnsetLink
PartOf Owed = List OwedTag
PartOf Leaving = Option Unlinking
PartOf Waiting = Looks
PartOf Free = Slots
PartOf Retired = Slots × Slots
PartOf Grace = Looks
PartOf Unused = Slots
PartOf _ = ℕ

abbrev pub part : (g : Group) → View → PartOf g
part Owner v = record { joined = v.joined; layout = v.layout; number = v.number; to_give = v.to_give }
part Inside v = v.section_word
part Announcing v = v.announced
part History v = v.history
part Counting v = v.counts
part Snapshot v = (v.reading.section, v.reading.opened)
part Tree v = v.reading.tree
part Standing v = (v.reading.place, v.reading.above)
part Links v = v.reading.links
part Turns v = (v.reading.left_turn, v.reading.right_turn)
part Looking v = (v.reading.least, v.reading.looked)
part Filling v = v.reading.filled
part Nodes v = v.held.nodes
part Locks v = held_slots v.held.nodes
part Nexts v = v.held.nexts
part Change v = record { raised = v.update.raised; added = v.update.added; taken = v.update.taken }
part Pending v = v.update.pending
part Unset v = v.update.unset
part Owed v = v.update.owed
part Leaving v = v.update.unlinking
part Waiting v = v.update.waiting
part Free v = v.free
part Retired v = (v.retired, v.batch)
part Grace v = v.grace
part Unused v = v.unused
