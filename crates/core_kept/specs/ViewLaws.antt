-- What each view keeps in every event that is allowed.
use Rattle.std.specs.Prelude.{◌≡◌, ℕ, List, true, false, All, Option, Some}
use Rattle.key_map.specs.Lists.{IsItem}
use Rattle.key_map.specs.declared.update.Update.{Update}
use Rattle.index_words.specs.declared.layout.Layout.{Layout}
use Rattle.index_words.specs.declared.view.View.{View}
use Rattle.index_words.specs.declared.word.Word.{Word}
use Rattle.index_words.specs.Words.{Memory, memory, word_at}
use Rattle.core_events.specs.declared.event.Event.{Event}
use Rattle.core_events.specs.declared.event.Kind.{Kind}
use Rattle.core_events.specs.Tables.{Table}
use Rattle.core_events.specs.Steps.{needs, carries, allowed, after, words_after, views_after}
use Rattle.core_invariant.specs.Numbers.{IsSpare}
use Rattle.core_invariant.specs.OwnPlaces.{KnowsPlaces}
use Rattle.core_invariant.specs.LinkRule.{LinksLast}
use Rattle.core_invariant.specs.Rule.{InRule, IsRight}
use Rattle.core_invariant.specs.SpentViews.{IsSpent}
use Rattle.core_invariant.specs.WaitingSlots.{WaitsRight}
use Rattle.core_invariant.specs.UnusedSlots.{UnusedRight}
use Rattle.core_kept.specs.KeepsSeen.{KeepsSeen}
use Rattle.core_kept.specs.SectionMoves.{MovesSections}

-- nothing is left of a view that was joined into another one
abbrev pub SpentLaw : Type 0
SpentLaw =
    (z : Layout) (m : Memory) (vs : List View) (i : ℕ) (v : View) (w : Word) (value : ℕ) (o : Option Update) → All IsSpent vs → v.joined ≡ false
    → (kind : Kind) → All IsSpent (views_after kind z m vs i v w value o)

-- no word of a number that is still to be given is used
abbrev pub SpareLaw : Type 0
SpareLaw =
    (z : Layout) (words : List ℕ) (vs : List View) → InRule z words vs → (i : ℕ) (v : View) → IsItem vs i v → (n : ℕ) (w : Word) → word_at z n ≡ Some w
    → (value : ℕ) (o : Option Update) (kind : Kind) → needs kind z (memory z words) vs i v w value o ≡ true
    → All (IsSpare (memory z (words_after kind words n value))) (views_after kind z (memory z words) vs i v w value o)

-- each view knows the places of its own updates
abbrev pub PlacesLaw : Type 0
PlacesLaw =
    (z : Layout) (words : List ℕ) (vs : List View) → InRule z words vs → (i : ℕ) (v : View) → IsItem vs i v
    → (w : Word) (value : ℕ) (kind : Kind) (o : Option Update)
    → carries kind v o ≡ true → needs kind z (memory z words) vs i v w value o ≡ true
    → All KnowsPlaces (views_after kind z (memory z words) vs i v w value o)

-- a view works at no node of its own batch, and slots wait only where there is a pass number
abbrev pub WaitsLaw : Type 0
WaitsLaw =
    (z : Layout) (words : List ℕ) (vs : List View) → InRule z words vs → (i : ℕ) (v : View) → IsItem vs i v → (n : ℕ) (w : Word) → word_at z n ≡ Some w
    → (value : ℕ) (kind : Kind) (o : Option Update) → carries kind v o ≡ true → needs kind z (memory z words) vs i v w value o ≡ true
    → All WaitsRight (views_after kind z (memory z words) vs i v w value o)

-- each word of a free slot that a view never used is 0, but for a lock
abbrev pub UnusedLaw : Type 0
UnusedLaw =
    (z : Layout) (words : List ℕ) (vs : List View) → InRule z words vs → (i : ℕ) (v : View) → IsItem vs i v → (n : ℕ) (w : Word) → word_at z n ≡ Some w
    → (value : ℕ) (kind : Kind) (o : Option Update) → needs kind z (memory z words) vs i v w value o ≡ true
    → All (UnusedRight (memory z (words_after kind words n value))) (views_after kind z (memory z words) vs i v w value o)

-- what seats have seen goes on from what they had seen
abbrev pub SeenLaw : Type 0
SeenLaw = (t : Table) (e : Event) → IsRight t → allowed t e ≡ true → KeepsSeen t e (after t e)

-- an enter and a leave alone change a section word, and their own one
abbrev pub SectionsLaw : Type 0
SectionsLaw = (t : Table) (e : Event) → IsRight t → allowed t e ≡ true → MovesSections t e (after t e)

-- a node that an update brings in is linked when nothing is pending any more
abbrev pub LinkingLaw : Type 0
LinkingLaw =
    (z : Layout) (words : List ℕ) (vs : List View) → InRule z words vs → (i : ℕ) (v : View) → IsItem vs i v
    → (w : Word) (value : ℕ) (kind : Kind) (o : Option Update)
    → needs kind z (memory z words) vs i v w value o ≡ true
    → All LinksLast (views_after kind z (memory z words) vs i v w value o)
