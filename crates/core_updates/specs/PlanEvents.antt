-- The events of a plan before and after its raise: what it changes is locked, each of its events is allowed whatever
-- others do, and where a look fails the count rises that the answer needs.
use Rattle.std.specs.Prelude.{◌≡◌, ℕ, ◌+◌, ◌^◌, ◌<◌, ◌⊎◌, [], true, false, Some, None, IfSome}
use Rattle.std.specs.List.{slice_get}
use Rattle.index_words.specs.declared.layout.Layout.{Layout}
use Rattle.index_words.specs.declared.side.Side.{Side}
use Rattle.index_words.specs.declared.view.View.{View}
use Rattle.index_words.specs.declared.view.reading.Filled.{Filled}
use Rattle.index_words.specs.declared.view.update.HeldNode.{HeldNode}
use Rattle.index_words.specs.declared.word.Field.TheVariants.{Key, Val, Lock, Mark, Head, Link as LinkField, Tag}
use Rattle.index_words.specs.declared.word.Part.TheVariants.{Stamp as Number}
use Rattle.index_words.specs.declared.word.Word.TheVariants.{Section, Node, Entry}
use Rattle.index_words.specs.Words.{word_at}
use Rattle.key_map.specs.Lists.{count, Every}
use Rattle.core_grace.specs.Sections.{left_word}
use Rattle.core_events.specs.declared.event.Event.{Event}
use Rattle.core_events.specs.declared.event.Kind.TheVariants.{Leave, Fill, LoadHead, LoadLink, LoadTag, Prepare, Finalise, TryLock, Unlock, LoadMark, Mark as MarkNode, LoadKeyOrVal}
use Rattle.core_laws.specs.Counts.{MeetsLock, RemembersOtherChild, RemembersOtherTag}
use Rattle.core_events.specs.LoadMoves.{risen}
use Rattle.core_events.specs.Needs.{is_successor}
use Rattle.core_events.specs.PlainNeeds.{is_done_at}
use Rattle.core_events.specs.Waits.{is_waiting}
use Rattle.core_invariant.specs.Readers.{IsLocked}
use Rattle.core_invariant.specs.Rule.{IsRight}
use Rattle.core_events.specs.Steps.{allowed, after}
use Rattle.core_events.specs.Tables.{Table, held_by}
use Rattle.core_events.specs.UpdateNeeds.{held_at, is_written, side_of}
use Rattle.core_laws.specs.PlainNeeds.{HasFirmLink}
use Rattle.core_laws.specs.ViewNeeds.{May, IsInside, IsSearched, event_at}
use Rattle.core_updates.specs.declared.plan.Plan.{Plan}
use Rattle.core_updates.specs.declared.plan.PlanSlots.{PlanSlots}
use Rattle.core_updates.specs.declared.plan.Front.{Front}
use Rattle.core_updates.specs.declared.plan.NewNode.{NewNode}
use Rattle.core_trees.specs.declared.link.Link.{Link}
use Rattle.core_updates.specs.Held.{HoldsHead}
use Rattle.core_updates.specs.Plans.{Look, LinkLook, KeyLook, ValLook, GapLook, BetweenLook, locks_of, looks_of, fronts_of, out_of, new_node_of, node_fills, entry_fills}
use Rattle.core_updates.specs.PlanReady.{HoldsFill}

-- the plan locks the node
abbrev pub IsLockOf : Plan → ℕ → Type 0
IsLockOf plan k = 0 < count k (locks_of plan)

abbrev pub looked_node : Look → ℕ
looked_node (LinkLook at child) = at.node
looked_node (KeyLook node key) = node
looked_node (ValLook node val) = node
looked_node (GapLook at key) = at.node
looked_node (BetweenLook at low high) = at.node

-- what the plan looks at, where it puts entries in front, and what it takes out, it has locked
pub record LocksAll (plan : Plan) (slots : PlanSlots) : Type 0 where
  pub looks : Every (λ l. IsLockOf plan (looked_node l)) (looks_of plan)
  pub fronts : Every (λ (f : Front). IsLockOf plan f.at.node) (fronts_of plan slots)
  pub out : Every (IsLockOf plan) (out_of plan)

abbrev pub LocksLaw : Type 0
LocksLaw = (plan : Plan) (slots : PlanSlots) → LocksAll plan slots

-- the seat is a pass inside a section
pub record IsWorking (v : View) (n : ℕ) : Type 0 where
  pub live : v.joined ≡ false
  pub own : v.number ≡ Some n
  pub inside : IsInside v

-- the slots are free ones of the seat
pub record HasSlots (v : View) (slots : PlanSlots) : Type 0 where
  pub node : 0 < count slots.node v.free.nodes
  pub at : 0 < count slots.at v.free.entries
  pub left : 0 < count slots.left v.free.entries
  pub right : 0 < count slots.right v.free.entries
  pub next : 0 < count slots.next v.free.entries

-- under the lock of the link's node its mark was found 0, and the newest entry of the link's bundle is this one
pub record HoldsEntry (v : View) (at : Link) (entry : ℕ) : Type 0 where
  pub head : HoldsHead v at.node at.side entry
  pub unmarked : head.held.mark ≡ Some 0

-- and the entry has a number, which was loaded under the lock, or is none
pub record HoldsNumbered (v : View) (at : Link) (entry : ℕ) : Type 0 where
  pub holds : HoldsEntry v at entry
  pub numbered : (entry ≡ 0) ⊎ (is_written holds.head.loaded.stamp ≡ true)

-- an entry may be put in front before the raise: the newest entry of the bundle was found, with its number, and the
-- entry is a free one that is filled with that one after it
pub record IsDue (v : View) (f : Front) (behind : ℕ) : Type 0 where
  pub unraised : v.update.raised ≡ None
  pub found : HoldsNumbered v f.at behind
  pub free : 0 < count f.entry v.free.entries
  pub small : f.entry < 2 ^ 32
  pub filled : Every (HoldsFill v) (entry_fills f.entry f.child behind)

abbrev pub MayFillAll : Layout → View → ℕ → (Filled → Type 0)
MayFillAll z v seat f = May z v (event_at z seat Fill f.word f.value)

-- the locked nodes that go out by the plan are known to be marked, but for a successor that is still to be unlinked
abbrev pub KnowsMarked : View → Plan → Type 0
KnowsMarked v plan =
    Every (λ (h : HeldNode). 0 < count h.node (out_of plan) → (h.mark ≡ Some 1) ⊎ (is_successor h.node v.update.unlinking ≡ true)) v.held.nodes

-- the events of the plan that the seat may make: its locks and looks, its fills, what is due, and after the raise the
-- numbers, the marks, and what gives back the locks and leaves the section, with two locks kept where it waits
pub record AllowsPlan (z : Layout) (v : View) (seat n : ℕ) (plan : Plan) (slots : PlanSlots) : Type 0 where
  pub lock : (k : ℕ) → IsSearched v k → ¬ IsLocked v k → May z v (event_at z seat TryLock (Node Lock k) (n + 1))
  pub head : (k : ℕ) (side : Side) → IsLocked v k → May z v (event_at z seat LoadHead (Node (Head side) k) 0)
  pub link : (k : ℕ) (side : Side) → HasFirmLink v k side → May z v (event_at z seat LoadLink (Node (LinkField side) k) 0)
  pub tag : (k : ℕ) (side : Side) → IsLocked v k → May z v (event_at z seat LoadTag (Node (Tag side) k) 0)
  pub marked : (k : ℕ) → IsLocked v k → May z v (event_at z seat LoadMark (Node Mark k) 0)
  pub key : (k : ℕ) → IsLocked v k → May z v (event_at z seat LoadKeyOrVal (Node Key k) 0)
  pub val : (k : ℕ) → IsLocked v k → May z v (event_at z seat LoadKeyOrVal (Node Val k) 0)
  pub node : HasSlots v slots → IfSome (new_node_of plan slots) (λ (m : NewNode). Every (MayFillAll z v seat) (node_fills m))
  pub left : HasSlots v slots → (child : ℕ) → Every (MayFillAll z v seat) (entry_fills slots.left child 0)
  pub right : HasSlots v slots → (child : ℕ) → Every (MayFillAll z v seat) (entry_fills slots.right child 0)
  pub front : HasSlots v slots → (behind : ℕ) → Every (λ (f : Front). Every (MayFillAll z v seat) (entry_fills f.entry f.child behind)) (fronts_of plan slots)
  pub prepare : (f : Front) (behind : ℕ) → IsDue v f behind → May z v (event_at z seat Prepare (Node (Head f.at.side) f.at.node) f.entry)
  pub finalise : (e place : ℕ) → 0 < count e v.update.pending → v.update.raised ≡ Some place → May z v (event_at z seat Finalise (Entry Number e) place)
  pub mark : (k : ℕ) → v.update.taken ≡ out_of plan → 0 < count k (out_of plan) → IsLocked v k → May z v (event_at z seat MarkNode (Node Mark k) 1)
  pub unlock : (k : ℕ) → v.update.taken ≡ out_of plan → v.update.pending ≡ [] → KnowsMarked v plan → is_done_at k v.update ≡ true → IsLocked v k
      → May z v (event_at z seat Unlock (Node Lock k) 0)
  pub leave : v.held.nodes ≡ [] → May z v (event_at z seat Leave (Section n) (left_word v.section_word))
  pub wait : v.update.taken ≡ out_of plan → v.update.pending ≡ [] → KnowsMarked v plan → is_waiting v ≡ true
      → May z v (event_at z seat Leave (Section n) (left_word v.section_word))

abbrev pub EventsLaw : Type 0
EventsLaw = (z : Layout) (v : View) (seat n : ℕ) (plan : Plan) (slots : PlanSlots) → IsWorking v n → AllowsPlan z v seat n plan slots

-- the seat has not raised, and has nothing pending
pub record IsBefore (v : View) : Type 0 where
  pub unraised : v.update.raised ≡ None
  pub idle : v.update.pending ≡ []
  pub untaken : v.update.taken ≡ []

-- the seat has loaded the link, or its tag, under the lock
pub record KnowsLink (v : View) (k : ℕ) (side : Side) : Type 0 where
  pub held : HeldNode
  pub locked : held_at k v.held.nodes ≡ Some held
  pub child : ℕ
  pub known : (side_of side held).link ≡ Some child

pub record KnowsTag (v : View) (k : ℕ) (side : Side) : Type 0 where
  pub held : HeldNode
  pub locked : held_at k v.held.nodes ≡ Some held
  pub found : ℕ
  pub known : (side_of side held).tag ≡ Some found

-- A count has risen where a search or a try fails: `busy` where a lock is held; `moves` where a node that was searched,
-- or is locked and none of the seat's retired ones, is marked, or where a plain link, or its tag, is another one than
-- the remembered one, loaded for the first time under the lock.
pub record CountsFailures (t : Table) (e : Event) (v w : View) : Type 0 where
  pub busy : MeetsLock t e → w.counts.busy ≡ risen v.counts.busy
  pub mark : (k : ℕ) → IsSearched v k ⊎ (IsLocked v k × (count k v.retired.nodes ≡ 0)) → e.kind ≡ LoadMark → word_at t.layout e.word ≡ Some (Node Mark k)
      → 0 < held_by t (Node Mark k) → w.counts.moves ≡ risen v.counts.moves
  pub link : (k : ℕ) (side : Side) → e.kind ≡ LoadLink → word_at t.layout e.word ≡ Some (Node (LinkField side) k)
      → RemembersOtherChild v k side (held_by t (Node (LinkField side) k)) → ¬ (KnowsLink v k side) → w.counts.moves ≡ risen v.counts.moves
  pub tag : (k : ℕ) (side : Side) → e.kind ≡ LoadTag → word_at t.layout e.word ≡ Some (Node (Tag side) k)
      → RemembersOtherTag v k side (held_by t (Node (Tag side) k)) → ¬ (KnowsTag v k side) → w.counts.moves ≡ risen v.counts.moves

abbrev pub FailuresLaw : Type 0
FailuresLaw =
    (t : Table) (e : Event) (v w : View) (n : ℕ) → IsRight t → allowed t e ≡ true → slice_get t.views e.seat ≡ Some v
    → slice_get (after t e).views e.seat ≡ Some w → IsWorking v n → IsBefore v → CountsFailures t e v w
