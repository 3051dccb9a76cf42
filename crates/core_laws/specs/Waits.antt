-- What a seat's view shows of the wait of a removal, and what a wait may rely on.
use Rattle.std.specs.Prelude.{◌≡◌, ◌≢◌, ℕ, ◌<◌, [], List, true, false, Some}
use Rattle.std.specs.List.{slice_get}
use Rattle.index_words.specs.declared.layout.Layout.{Layout}
use Rattle.index_words.specs.declared.side.Side.{Side}
use Rattle.index_words.specs.declared.view.View.{View}
use Rattle.index_words.specs.declared.view.update.Unlinking.{Unlinking}
use Rattle.index_words.specs.declared.word.Field.TheVariants.{Lock, Mark, Head, Link, Tag}
use Rattle.index_words.specs.declared.word.Word.TheVariants.{Section, Node}
use Rattle.index_words.specs.Views.{no_looks}
use Rattle.index_words.specs.Words.{Memory, word_at}
use Rattle.key_map.specs.Lists.{count, Every, IsItem}
use Rattle.core_grace.specs.Sections.{is_even, left_word}
use Rattle.core_events.specs.declared.event.Event.{Event}
use Rattle.core_events.specs.declared.event.Kind.TheVariants.{Leave, LookSec, SetLink}
use Rattle.core_events.specs.PlainNeeds.{sets_others}
use Rattle.core_events.specs.Steps.{allowed, after}
use Rattle.core_events.specs.Tables.{Table, held_by}
use Rattle.core_events.specs.Waits.{is_waiting}
use Rattle.core_invariant.specs.Readers.{IsLocked}
use Rattle.core_invariant.specs.Rule.{InRule, IsRight}
use Rattle.core_laws.specs.ViewNeeds.{May, event_at, IsInside, IsKnownMarked}

-- leave at the wait: inside a section, where nothing is pending, and each locked node that the update took out is known
-- to be marked, but for the successor
pub record MayLeaveWaiting (v : View) (n : ℕ) : Type 0 where
  pub own : v.number ≡ Some n
  pub inside : IsInside v
  pub waiting : is_waiting v ≡ true
  pub done : v.update.pending ≡ []
  pub marked : Every (IsKnownMarked v.update) v.held.nodes

-- look at the section word of another pass at the wait: outside a section
pub record MayLookWaiting (v : View) (pass : ℕ) : Type 0 where
  pub other : v.number ≢ Some pass
  pub there : pass < v.layout.passes
  pub even : is_even v.section_word ≡ true
  pub waiting : is_waiting v ≡ true

abbrev pub LeaveWaitingLaw : Type 0
LeaveWaitingLaw = (z : Layout) (v : View) (seat n : ℕ) → MayLeaveWaiting v n → May z v (event_at z seat Leave (Section n) (left_word v.section_word))

abbrev pub LookWaitingLaw : Type 0
LookWaitingLaw = (z : Layout) (v : View) (seat pass : ℕ) → MayLookWaiting v pass → May z v (event_at z seat LookSec (Section pass) 0)

-- the looks of a wait begin with none: inside a section a view has none
abbrev pub NoLooksLaw : Type 0
NoLooksLaw = (z : Layout) (words : List ℕ) (vs : List View) (seat : ℕ) (v : View) → InRule z words vs → slice_get vs seat ≡ Some v → IsInside v → v.update.waiting ≡ no_looks

-- the lock, the mark, the heads, the plain links and the tags of a node stay
pub record NodeStays (m m' : Memory) (k : ℕ) : Type 0 where
  pub lock : m' (Node Lock k) ≡ m (Node Lock k)
  pub mark : m' (Node Mark k) ≡ m (Node Mark k)
  pub head : (side : Side) → m' (Node (Head side) k) ≡ m (Node (Head side) k)
  pub link : (side : Side) → m' (Node (Link side) k) ≡ m (Node (Link side) k)
  pub tag : (side : Side) → m' (Node (Tag side) k) ≡ m (Node (Tag side) k)

-- no event of another seat changes a node that a view has locked, at a wait as inside a section
abbrev pub LockedStaysLaw : Type 0
LockedStaysLaw =
    (t : Table) (e : Event) → IsRight t → allowed t e ≡ true → (i k : ℕ) (v : View) → IsItem t.views i v → i ≢ e.seat → IsLocked v k
    → NodeStays (held_by t) (held_by (after t e)) k

-- a store of a plain link unlinks a successor: the update took out a node with two children, and its successor, which
-- was not the node's right child
pub record UnlinksSuccessor (t : Table) (e : Event) (v : View) (u : Unlinking) : Type 0 where
  pub kind : e.kind ≡ SetLink
  pub word : word_at t.layout e.word ≡ Some (Node (Link u.side) u.parent)
  pub unlinking : v.update.unlinking ≡ Some u

-- the successor is marked, no other link is still to be set, so that its copy is linked, and each other pass was passed
pub record HasWaited (t : Table) (v : View) (u : Unlinking) : Type 0 where
  pub marked : held_by t (Node Mark u.successor) ≡ 1
  pub linked : sets_others u.parent u.side v.update.unset ≡ false
  pub passed : (pass : ℕ) → pass < t.layout.passes → v.number ≢ Some pass → 0 < count pass v.update.waiting.passed

-- such a successor is unlinked only then
abbrev pub UnlinkLaw : Type 0
UnlinkLaw =
    (t : Table) (e : Event) (v : View) (u : Unlinking) → IsRight t → allowed t e ≡ true → slice_get t.views e.seat ≡ Some v
    → UnlinksSuccessor t e v u → HasWaited t v u

-- each pass was passed since the copy was linked: as long as another link is to be set there are no looks of the wait
abbrev pub LooksLastLaw : Type 0
LooksLastLaw =
    (t : Table) (i : ℕ) (v : View) (u : Unlinking) → IsRight t → IsItem t.views i v → v.update.unlinking ≡ Some u
    → sets_others u.parent u.side v.update.unset ≡ true → v.update.waiting ≡ no_looks
