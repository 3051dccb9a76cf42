-- Why a count of a view rises: what another pass did. So the counts of a pass that is alone on its table never rise,
-- and what it tries never fails for others.
use Rattle.std.specs.Prelude.{◌≡◌, ◌≢◌, ℕ, ◌+◌, ◌<◌, ◌⊎◌, true, Some}
use Rattle.std.specs.List.{slice_get}
use Rattle.index_words.specs.declared.side.Side.{Side}
use Rattle.index_words.specs.declared.view.View.{View}
use Rattle.index_words.specs.declared.word.Field.TheVariants.{Lock, Mark, Head, Link as LinkField, Tag}
use Rattle.index_words.specs.declared.word.Part.TheVariants.{Stamp as Number}
use Rattle.index_words.specs.declared.word.Word.TheVariants.{Node, Entry}
use Rattle.index_words.specs.Words.{word_at}
use Rattle.key_map.specs.Lists.{count, IsItem}
use Rattle.core_events.specs.declared.event.Event.{Event}
use Rattle.core_events.specs.Tables.{Table, held_by}
use Rattle.core_events.specs.Steps.{allowed, after}
use Rattle.core_invariant.specs.Histories.{place_count}
use Rattle.core_invariant.specs.Locks.{lock_count}
use Rattle.core_invariant.specs.OwnPlaces.{HasNumber}
use Rattle.core_invariant.specs.Rule.{IsRight}
use Rattle.core_laws.specs.Changers.{ChangesLink, ChangesTag, HasTag, IsStoredSince}
use Rattle.core_laws.specs.Counts.{MeetsLock, FindsNoNumber, FindsOtherHead, FindsOtherChild, FindsOtherTag, FindsMark}

-- this holds of another pass of the table than this view's: of a view that has its number, or to which it was given up
pub record AnotherPass (t : Table) (v : View) (does : ℕ → View → Type 0) : Type 0 where
  pub own : ℕ
  pub named : v.number ≡ Some own
  pub own_there : own < t.layout.passes
  pub pass : ℕ
  pub there : pass < t.layout.passes
  pub apart : pass ≢ own
  pub place : ℕ
  pub view : View
  pub at : IsItem t.views place view
  pub has : HasNumber view pass
  pub done : does pass view

-- the view has locked the node whose lock the event tries
pub record HasLocked (t : Table) (e : Event) (pass : ℕ) (view : View) : Type 0 where
  pub node : ℕ
  pub word : word_at t.layout e.word ≡ Some (Node Lock node)
  pub locked : 0 < lock_count node view

-- the view has the entry pending whose stamp the event loads
pub record HasPending (t : Table) (e : Event) (pass : ℕ) (view : View) : Type 0 where
  pub entry : ℕ
  pub word : word_at t.layout e.word ≡ Some (Entry Number entry)
  pub pending : 0 < count entry view.update.pending

-- the entry is pending in the view, or its number is the place of an update of the pass
abbrev pub IsStoredBy : Table → ℕ → View → ℕ → Type 0
IsStoredBy t pass view head = (0 < count head view.update.pending) ⊎ (0 < place_count pass (held_by t (Entry Number head)) view)

-- the pass stored the head that the event loads
pub record HasMovedHead (t : Table) (e : Event) (pass : ℕ) (view : View) : Type 0 where
  pub node : ℕ
  pub side : Side
  pub word : word_at t.layout e.word ≡ Some (Node (Head side) node)
  pub stored : IsStoredBy t pass view (held_by t (Node (Head side) node))

-- the node whose mark the event loads waits in the view to become free: it was taken out
pub record HasTakenOut (t : Table) (e : Event) (pass : ℕ) (view : View) : Type 0 where
  pub node : ℕ
  pub word : word_at t.layout e.word ≡ Some (Node Mark node)
  pub waits : 0 < count node view.retired.nodes + count node view.batch.nodes

-- What is met is another pass's: a lock that is held, an entry without a number, another head than the remembered one,
-- a mark. Another plain link, or another tag, than the remembered one was stored since it was that: by another seat, or
-- by this one.
pub record MetByOthers (t : Table) (e : Event) (v : View) : Type 0 where
  pub lock : MeetsLock t e → AnotherPass t v (HasLocked t e)
  pub number : FindsNoNumber t e v → AnotherPass t v (HasPending t e)
  pub head : FindsOtherHead t e v → AnotherPass t v (HasMovedHead t e)
  pub link : (p : FindsOtherChild t e v) → IsStoredSince t e.seat (Node (LinkField p.side) p.node) p.other.link.child (ChangesLink p.node p.side)
  pub tag : (p : FindsOtherTag t e v) (x : ℕ) → HasTag x p.other.link.source
      → IsStoredSince t e.seat (Node (Tag p.side) p.node) x (ChangesTag p.node p.side)
  pub mark : FindsMark t e v → AnotherPass t v (HasTakenOut t e)

-- each count rises for what another pass did, or for a link or a tag that was stored since
abbrev pub OthersLaw : Type 0
OthersLaw = (t : Table) (e : Event) (v : View) → IsRight t → allowed t e ≡ true → slice_get t.views e.seat ≡ Some v → MetByOthers t e v

-- nothing is met for which a count rises
pub record MeetsNothing (t : Table) (e : Event) (v : View) : Type 0 where
  pub lock : ¬ MeetsLock t e
  pub number : ¬ FindsNoNumber t e v
  pub head : ¬ FindsOtherHead t e v
  pub link : ¬ FindsOtherChild t e v
  pub tag : ¬ FindsOtherTag t e v
  pub mark : ¬ FindsMark t e v

-- on a table of one pass nothing is met
abbrev pub NothingLaw : Type 0
NothingLaw =
    (t : Table) (e : Event) (v : View) → IsRight t → t.layout.passes ≡ 1 → allowed t e ≡ true → slice_get t.views e.seat ≡ Some v → MeetsNothing t e v

-- so on a table of one pass no count rises
abbrev pub AloneLaw : Type 0
AloneLaw =
    (t : Table) (e : Event) (v w : View) → IsRight t → t.layout.passes ≡ 1 → allowed t e ≡ true → slice_get t.views e.seat ≡ Some v
    → slice_get (after t e).views e.seat ≡ Some w → w.counts ≡ v.counts
