-- What a seat may do, as far as its own view tells: a record for each kind of event, over the view and what the event
-- is about. Whatever the words and the other views are, the event is then allowed.
use Rattle.std.specs.Prelude.{◌≡◌, ◌≢◌, ℕ, ◌+◌, ◌^◌, ◌<◌, ◌≤◌, ◌⊎◌, List, [], length, true, false, ◌&&◌, Option, Some, None, is_some}
use Rattle.std.specs.List.{slice_get}
use Rattle.index_words.specs.declared.layout.Layout.{Layout}
use Rattle.index_words.specs.declared.side.Side.{Side}
use Rattle.index_words.specs.declared.view.View.{View}
use Rattle.index_words.specs.declared.view.reading.Place.TheVariants.{Entry as AtEntry}
use Rattle.index_words.specs.declared.view.update.HeldNode.{HeldNode}
use Rattle.index_words.specs.declared.view.update.LoadedHead.{LoadedHead}
use Rattle.index_words.specs.declared.view.update.Updating.{Updating}
use Rattle.index_words.specs.declared.word.Field.TheVariants.{Key, Val, Lock, Mark, Head}
use Rattle.index_words.specs.declared.word.Part.TheVariants.{Child, Stamp as Number, Next}
use Rattle.index_words.specs.declared.word.Word.{Word}
use Rattle.index_words.specs.declared.word.Word.TheVariants.{Stamp, Section, Announced, Node, Entry}
use Rattle.index_words.specs.Words.{address}
use Rattle.key_map.specs.Lists.{count, Every, IsItem}
use Rattle.core_grace.specs.Batches.{is_empty}
use Rattle.core_grace.specs.Holds.{tree_slots}
use Rattle.core_grace.specs.Sections.{is_even, left_word}
use Rattle.core_events.specs.declared.event.Event.{Event}
use Rattle.core_events.specs.declared.event.Kind.{Kind}
use Rattle.core_events.specs.declared.event.Kind.TheVariants.{SplitSeat, JoinSeat, Enter, Leave, LookSec, Fill, LoadStamp, LoadHead, LoadTs, LoadPtr, LoadNext, Prepare, Finalise, TryLock, Unlock, LoadMark, Mark as MarkNode, LoadKeyOrVal, Announce, LookAnn}
use Rattle.core_events.specs.Needs.{is_lock, is_successor}
use Rattle.core_events.specs.LoadMoves.{is_above}
use Rattle.core_events.specs.PlainNeeds.{is_done_at}
use Rattle.core_events.specs.Searches.{search_nodes}
use Rattle.core_laws.specs.Owners.{HasFreeNode, HasFreeEntry}
use Rattle.core_invariant.specs.Readers.{IsLocked}
use Rattle.core_invariant.specs.Rule.{InRule}
use Rattle.core_invariant.specs.WaitingSlots.{HasNoneWaiting}
use Rattle.core_events.specs.Steps.{allowed}
use Rattle.core_events.specs.UpdateNeeds.{held_at, is_written, side_of}

-- in every table of this layout that meets the rule, a seat with this view may make the event
abbrev pub May : Layout → View → Event → Type 0
May z v e = (words : List ℕ) (vs : List View) → InRule z words vs → slice_get vs e.seat ≡ Some v
    → allowed (record { layout = z; words = words; views = vs }) e ≡ true

-- the event of a seat at a word by name
abbrev pub event_at : Layout → ℕ → Kind → Word → ℕ → Event
event_at z seat kind w value = record { seat = seat; kind = kind; word = address z w; value = value; update = None }

-- outside a section, with no lock held
pub record IsOutside (v : View) : Type 0 where
  pub even : is_even v.section_word ≡ true
  pub unlocked : v.held.nodes ≡ []

abbrev pub IsInside : View → Type 0
IsInside v = is_even v.section_word ≡ false

-- the root, a node of the tree that the seat reads, or one that it has locked
abbrev pub IsInReach : View → ℕ → Type 0
IsInReach v k = (k ≡ 0) ⊎ ((0 < count k (tree_slots v.reading.tree)) ⊎ IsLocked v k)

-- the seat stands at this entry of a bundle, which is one of the table
pub record IsAtEntry (v : View) (e : ℕ) : Type 0 where
  pub node : ℕ
  pub side : Side
  pub found : Option ℕ
  pub place : v.reading.place ≡ AtEntry node side e found
  pub some : 0 < e
  pub there : e ≤ v.layout.entries

-- the root, or a node at which a search on plain links stands, last turned, or found a link that it remembers
abbrev pub IsSearched : View → ℕ → Type 0
IsSearched v k = (k ≡ 0) ⊎ (0 < count k (search_nodes 0 v.reading))

-- enter: outside a section
pub record MayEnter (v : View) (n : ℕ) : Type 0 where
  pub own : v.number ≡ Some n
  pub outside : IsOutside v

-- leave: inside a section with no lock held; then nothing is pending
pub record MayLeave (v : View) (n : ℕ) : Type 0 where
  pub own : v.number ≡ Some n
  pub inside : IsInside v
  pub unlocked : v.held.nodes ≡ []

-- look at the section word of another pass: outside a section, with slots that wait to become free
pub record MayLook (v : View) (pass : ℕ) : Type 0 where
  pub other : v.number ≢ Some pass
  pub there : pass < v.layout.passes
  pub outside : IsOutside v
  pub waiting : (is_empty v.batch && is_empty v.retired) ≡ false

-- fill: any word but the lock of a free slot of its own
abbrev pub MayFill : View → Word → Type 0
MayFill v (Node field k) = (is_lock field ≡ false) × HasFreeNode v k
MayFill v (Entry part e) = HasFreeEntry v e
MayFill v _ = ⊥

-- load of the stamp: inside a section, with no snapshot open
pub record MayLoadStamp (v : View) : Type 0 where
  pub inside : IsInside v
  pub closed : v.reading.opened ≡ None

-- and where it fixes a place: by a seat that has announced
pub record MayFix (v : View) : Type 0 where
  pub load : MayLoadStamp v
  pub announced : 0 < v.announced

-- announce: inside a section, as long as it has no section number, how many updates it has seen
pub record MayAnnounce (v : View) (n : ℕ) : Type 0 where
  pub own : v.number ≡ Some n
  pub inside : IsInside v
  pub unread : v.reading.section ≡ None

-- take the announcement back: outside a section
pub record MayTakeBack (v : View) (n : ℕ) : Type 0 where
  pub own : v.number ≡ Some n
  pub even : is_even v.section_word ≡ true

-- look at the announcement of another pass: by a seat with a section number
pub record MayLookAnn (v : View) (pass : ℕ) : Type 0 where
  pub other : v.number ≢ Some pass
  pub there : pass < v.layout.passes
  pub reads : is_some v.reading.section ≡ true

-- load of a head: inside a section, of a node in reach
pub record MayReadHead (v : View) (k : ℕ) : Type 0 where
  pub inside : IsInside v
  pub reach : IsInReach v k

-- loads of the stamp and of the child of an entry: the seat stands there
pub record MayReadNumber (v : View) (e : ℕ) : Type 0 where
  pub at : IsAtEntry v e

pub record MayReadChild (v : View) (e : ℕ) : Type 0 where
  pub at : IsAtEntry v e

-- load of its next: the seat also has locked the node, or knows that the entry is above its section number
pub record MayReadNext (v : View) (e : ℕ) : Type 0 where
  pub at : IsAtEntry v e
  pub on : IsLocked v at.node ⊎ (is_above v e at.found ≡ true)

-- the seat has put this value into the word, and nothing else since
pub record HasFilled (v : View) (w : Word) (x : ℕ) : Type 0 where
  pub place : ℕ
  pub is : IsItem v.reading.filled place (record { word = w; value = x })

-- prepare: before the raise, at a node that the seat has locked and found unmarked, whose head it has loaded under the
-- lock: 0, or an entry with a written number. The entry is a free one of its own, into which it has put no number, and
-- the old head as the next
pub record MayPrepare (v : View) (k : ℕ) (side : Side) (e : ℕ) : Type 0 where
  pub unraised : v.update.raised ≡ None
  pub node : HeldNode
  pub locked : held_at k v.held.nodes ≡ Some node
  pub unmarked : node.mark ≡ Some 0
  pub head : LoadedHead
  pub loaded : (side_of side node).head ≡ Some head
  pub old : (head.entry ≡ 0) ⊎ (is_written head.stamp ≡ true)
  pub free : HasFreeEntry v e
  pub small : e < 2 ^ 32
  pub next : HasFilled v (Entry Next e) head.entry
  pub unnumbered : HasFilled v (Entry Number e) 0

-- finalise: an entry that it has pending, with the number of its raise
pub record MayFinalise (v : View) (e place : ℕ) : Type 0 where
  pub pending : 0 < count e v.update.pending
  pub raised : v.update.raised ≡ Some place

-- try lock: inside a section, of a node that it has searched and not locked
pub record MayLock (v : View) (n k : ℕ) : Type 0 where
  pub own : v.number ≡ Some n
  pub inside : IsInside v
  pub searched : IsSearched v k
  pub unlocked : ¬ IsLocked v k

-- a locked node that the update took out is known to be marked, or is a successor that is still to be unlinked
abbrev pub IsKnownMarked : Updating → HeldNode → Type 0
IsKnownMarked u h = 0 < count h.node u.taken → (h.mark ≡ Some 1) ⊎ (is_successor h.node u.unlinking ≡ true)

-- unlock: a node that it has locked, where nothing is pending, each locked node that its update took out is known to be
-- marked, but for a successor that is still to be unlinked, and each plain link of the node is set, and its tag raised,
-- that its update has to. The node itself is no such successor
pub record MayUnlock (v : View) (k : ℕ) : Type 0 where
  pub locked : IsLocked v k
  pub done : v.update.pending ≡ []
  pub marked : Every (IsKnownMarked v.update) v.held.nodes
  pub set : is_done_at k v.update ≡ true

-- loads of a mark, and of a key or a value: inside a section. That they are inside one is used by no law; a test
-- alone pins it
pub record MayReadMark (v : View) (k : ℕ) : Type 0 where
  pub inside : IsInside v
  pub there : k ≤ v.layout.nodes

pub record MayReadPair (v : View) (k : ℕ) : Type 0 where
  pub inside : IsInside v
  pub there : k ≤ v.layout.nodes

-- mark: a node that it has locked and that its update took out
pub record MayMark (v : View) (k : ℕ) : Type 0 where
  pub locked : IsLocked v k
  pub taken : 0 < count k v.update.taken

-- split: without a free node, or with the first one
pub record MaySplit (v : View) (nodes : ℕ) : Type 0 where
  pub live : v.joined ≡ false
  pub few : (nodes ≡ 0) ⊎ ((nodes ≡ 1) × (0 < length v.free.nodes))

-- join with a seat that has this view: neither was joined away, and that one has neither a number nor a slot that
-- waits, or both are outside
pub record MayJoin (v other : View) : Type 0 where
  pub live : v.joined ≡ false
  pub other_live : other.joined ≡ false
  pub apart : ((other.number ≡ None) × HasNoneWaiting other) ⊎ (IsOutside v × IsOutside other)

abbrev pub EnterLaw : Type 0
EnterLaw = (z : Layout) (v : View) (seat n : ℕ) → MayEnter v n → May z v (event_at z seat Enter (Section n) (v.section_word + 1))

abbrev pub LeaveLaw : Type 0
LeaveLaw = (z : Layout) (v : View) (seat n : ℕ) → MayLeave v n → May z v (event_at z seat Leave (Section n) (left_word v.section_word))

abbrev pub LookLaw : Type 0
LookLaw = (z : Layout) (v : View) (seat pass : ℕ) → MayLook v pass → May z v (event_at z seat LookSec (Section pass) 0)

abbrev pub FillLaw : Type 0
FillLaw = (z : Layout) (v : View) (seat : ℕ) (w : Word) (value : ℕ) → MayFill v w → May z v (event_at z seat Fill w value)

abbrev pub LoadStampLaw : Type 0
LoadStampLaw = (z : Layout) (v : View) (seat : ℕ) → MayLoadStamp v → May z v (event_at z seat LoadStamp Stamp 0)

abbrev pub FixLaw : Type 0
FixLaw = (z : Layout) (v : View) (seat : ℕ) → MayFix v → May z v (event_at z seat LoadStamp Stamp 1)

abbrev pub AnnounceLaw : Type 0
AnnounceLaw =
    (z : Layout) (v : View) (seat n : ℕ) → MayAnnounce v n → May z v (event_at z seat Announce (Announced n) (length v.history.seen + 1))

abbrev pub TakeBackLaw : Type 0
TakeBackLaw = (z : Layout) (v : View) (seat n : ℕ) → MayTakeBack v n → May z v (event_at z seat Announce (Announced n) 0)

abbrev pub LookAnnLaw : Type 0
LookAnnLaw = (z : Layout) (v : View) (seat pass : ℕ) → MayLookAnn v pass → May z v (event_at z seat LookAnn (Announced pass) 0)

abbrev pub ReadHeadLaw : Type 0
ReadHeadLaw = (z : Layout) (v : View) (seat k : ℕ) (side : Side) → MayReadHead v k → May z v (event_at z seat LoadHead (Node (Head side) k) 0)

abbrev pub ReadNumberLaw : Type 0
ReadNumberLaw = (z : Layout) (v : View) (seat e : ℕ) → MayReadNumber v e → May z v (event_at z seat LoadTs (Entry Number e) 0)

abbrev pub ReadChildLaw : Type 0
ReadChildLaw = (z : Layout) (v : View) (seat e : ℕ) → MayReadChild v e → May z v (event_at z seat LoadPtr (Entry Child e) 0)

abbrev pub ReadNextLaw : Type 0
ReadNextLaw = (z : Layout) (v : View) (seat e : ℕ) → MayReadNext v e → May z v (event_at z seat LoadNext (Entry Next e) 0)

abbrev pub PrepareLaw : Type 0
PrepareLaw = (z : Layout) (v : View) (seat k : ℕ) (side : Side) (e : ℕ) → MayPrepare v k side e → May z v (event_at z seat Prepare (Node (Head side) k) e)

abbrev pub FinaliseLaw : Type 0
FinaliseLaw = (z : Layout) (v : View) (seat e place : ℕ) → MayFinalise v e place → May z v (event_at z seat Finalise (Entry Number e) place)

abbrev pub LockLaw : Type 0
LockLaw = (z : Layout) (v : View) (seat n k : ℕ) → MayLock v n k → May z v (event_at z seat TryLock (Node Lock k) (n + 1))

abbrev pub UnlockLaw : Type 0
UnlockLaw = (z : Layout) (v : View) (seat k : ℕ) → MayUnlock v k → May z v (event_at z seat Unlock (Node Lock k) 0)

abbrev pub ReadMarkLaw : Type 0
ReadMarkLaw = (z : Layout) (v : View) (seat k : ℕ) → MayReadMark v k → May z v (event_at z seat LoadMark (Node Mark k) 0)

abbrev pub MarkLaw : Type 0
MarkLaw = (z : Layout) (v : View) (seat k : ℕ) → MayMark v k → May z v (event_at z seat MarkNode (Node Mark k) 1)

abbrev pub ReadKeyLaw : Type 0
ReadKeyLaw = (z : Layout) (v : View) (seat k : ℕ) → MayReadPair v k → May z v (event_at z seat LoadKeyOrVal (Node Key k) 0)

abbrev pub ReadValLaw : Type 0
ReadValLaw = (z : Layout) (v : View) (seat k : ℕ) → MayReadPair v k → May z v (event_at z seat LoadKeyOrVal (Node Val k) 0)

abbrev pub SplitLaw : Type 0
SplitLaw = (z : Layout) (v : View) (seat nodes : ℕ) → MaySplit v nodes → May z v (event_at z seat SplitSeat Stamp nodes)

-- a join knows both views
abbrev pub JoinLaw : Type 0
JoinLaw =
    (z : Layout) (v u : View) (seat other : ℕ) → other ≢ seat → MayJoin v u
    → (words : List ℕ) (vs : List View) → InRule z words vs → slice_get vs seat ≡ Some v → slice_get vs other ≡ Some u
    → allowed (record { layout = z; words = words; views = vs }) (event_at z seat JoinSeat Stamp other) ≡ true
