-- Cuts: what a seat's view shows where it may cut, which is that it has walked along the bundle under its lock; and
-- that nobody reads, then or later, what is cut off.
use Rattle.std.specs.Prelude.{◌≡◌, ℕ, ◌<◌, ◌≤◌, ◌⊎◌, List, [], ◌∷◌, true, false, Some}
use Rattle.index_words.specs.declared.layout.Layout.{Layout}
use Rattle.index_words.specs.declared.side.Side.{Side}
use Rattle.index_words.specs.declared.view.View.{View}
use Rattle.index_words.specs.declared.view.update.HeldNode.{HeldNode}
use Rattle.index_words.specs.declared.view.update.LoadedHead.{LoadedHead}
use Rattle.index_words.specs.declared.word.Part.TheVariants.{Next}
use Rattle.index_words.specs.declared.word.Word.TheVariants.{Stamp, Entry}
use Rattle.index_words.specs.Words.{word_at}
use Rattle.key_map.specs.Lists.{count, has, IsItem}
use Rattle.core_links.specs.Bundle.{select}
use Rattle.core_grace.specs.Batches.{all_passed}
use Rattle.core_events.specs.declared.event.Event.{Event}
use Rattle.core_events.specs.declared.event.Kind.TheVariants.{Cut}
use Rattle.core_events.specs.Tables.{Table, held_by}
use Rattle.core_events.specs.UpdateNeeds.{side_of}
use Rattle.core_events.specs.Numbered.{entry_number}
use Rattle.core_events.specs.CutMoves.{cut_off}
use Rattle.core_events.specs.Steps.{allowed}
use Rattle.core_invariant.specs.BundleRule.{IsLive}
use Rattle.core_invariant.specs.LinkLaw.{HasReader, IsBundleOf}
use Rattle.core_invariant.specs.Rule.{IsRight}
use Rattle.core_laws.specs.ViewNeeds.{May, event_at}

-- under the lock of its node, the seat has loaded the written number of the entry and then its next
pub record HasWalkedAt (v : View) (node entry number next : ℕ) : Type 0 where
  pub place : ℕ
  pub is : IsItem v.held.nexts place (record { node = node; entry = entry; stamp = Some number; next = next })
  pub written : 0 < number

-- and went past it, since its number is above the least one
pub record HasPassed (v : View) (node least entry : ℕ) : Type 0 where
  pub number : ℕ
  pub next : ℕ
  pub walked : HasWalkedAt v node entry number next
  pub above : least < number

-- from an entry on, it went past these up to the last one
abbrev pub HasWalkedTo : View → ℕ → ℕ → ℕ → List ℕ → ℕ → Type 0
HasWalkedTo v node least from [] last = from ≡ last
HasWalkedTo v node least from (e ∷ es) last = (from ≡ e) × (passed : HasPassed v node least e) × HasWalkedTo v node least passed.next es last

-- cut: at a node that the seat has locked and found unmarked, and that its update did not take out, after the first
-- entry of the bundle whose number is at most the least one, for which the seat has looked at every other pass
pub record MayCut (v : View) (k : ℕ) (side : Side) (e : ℕ) : Type 0 where
  pub least : ℕ
  pub is : v.reading.least ≡ Some least
  pub looked : all_passed v.layout.passes v.number v.reading.looked ≡ true
  pub place : ℕ
  pub node : HeldNode
  pub locked : IsItem v.held.nodes place node
  pub named : node.node ≡ k
  pub unmarked : node.mark ≡ Some 0
  pub stays : has k v.update.taken ≡ false
  pub head : LoadedHead
  pub loaded : (side_of side node).head ≡ Some head
  pub front : List ℕ
  pub walked : HasWalkedTo v k least head.entry front e
  pub number : ℕ
  pub next : ℕ
  pub here : HasWalkedAt v k e number next
  pub low : number ≤ least
  pub some : 0 < e

abbrev pub CutNeedLaw : Type 0
CutNeedLaw = (z : Layout) (v : View) (seat k : ℕ) (side : Side) (e : ℕ) → MayCut v k side e → May z v (event_at z seat Cut (Entry Next e) 0)

-- a section number that a seat has, or may get later: it will be the stamp of that moment
abbrev pub IsReadNowOrLater : Table → ℕ → Type 0
IsReadNowOrLater t n = HasReader t.views n ⊎ (held_by t Stamp ≤ n)

-- in no bundle of the root or of a node that is not free does the number select one of these entries
abbrev pub SelectsNone : Table → ℕ → List ℕ → Type 0
SelectsNone t n out =
    (k : ℕ) (side : Side) (es : List ℕ) → IsLive t.layout t.views k → IsBundleOf (held_by t) side k es
    → count (select (entry_number (held_by t) t.views) n es) out ≡ 0

-- an allowed cut takes no entry that a section number selects, now or later
abbrev pub UnreadLaw : Type 0
UnreadLaw =
    (t : Table) (e : Event) (entry n : ℕ) → IsRight t → allowed t e ≡ true → e.kind ≡ Cut → word_at t.layout e.word ≡ Some (Entry Next entry)
    → IsReadNowOrLater t n → SelectsNone t n (cut_off t.layout (held_by t) entry)
