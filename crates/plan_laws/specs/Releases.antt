-- The end of an update, and of a try that fails: the locks are given back, one after another, the section is left, and
-- the announcement is taken back.
use Rattle.std.specs.Prelude.{◌≡◌, ℕ, ◌<◌, ◌≤◌, List, [], ◌∷◌, Bool, true, false, Some, None}
use Rattle.index_words.specs.declared.layout.Layout.{Layout}
use Rattle.index_words.specs.declared.view.View.{View}
use Rattle.index_words.specs.declared.view.update.HeldNode.{HeldNode}
use Rattle.index_words.specs.declared.word.Field.TheVariants.{Lock}
use Rattle.index_words.specs.declared.word.Word.TheVariants.{Section, Announced, Node}
use Rattle.index_words.specs.Views.{no_reading, no_update}
use Rattle.key_map.specs.Lists.{count, Every}
use Rattle.core_grace.specs.Holds.{held_slots}
use Rattle.core_grace.specs.Sections.{is_even, left_word}
use Rattle.core_events.specs.declared.event.Kind.TheVariants.{Leave, Unlock, Announce}
use Rattle.core_events.specs.Announcing.{announced_view}
use Rattle.core_events.specs.LockMoves.{unlocked_view}
use Rattle.core_events.specs.Moves.{left}
use Rattle.core_laws.specs.ViewNeeds.{May, IsInside, event_at}
use Rattle.plan_laws.specs.Frames.{KeepsOwned}
use Rattle.plan_laws.specs.Tries.{IsTrying}

-- a pass still has these nodes locked, in this order, and no others, inside a section, or after one with a wait.
-- Nothing is pending, and of these nodes those that its update took out are known to be marked; no plain link is to be
-- set any more, no tag to be raised, and no successor to be unlinked. With the last lock the update has ended
pub record IsGivingBack (even : Bool) (v : View) (n : ℕ) (nodes : List ℕ) : Type 0 where
  pub live : v.joined ≡ false
  pub own : v.number ≡ Some n
  pub word : is_even v.section_word ≡ even
  pub once : (k : ℕ) → count k nodes ≤ 1
  pub locked : held_slots v.held.nodes ≡ nodes
  pub done : v.update.pending ≡ []
  pub marked : Every (λ (h : HeldNode). 0 < count h.node v.update.taken → h.mark ≡ Some 1) v.held.nodes
  pub set : (v.update.unset ≡ []) × (v.update.owed ≡ []) × (v.update.unlinking ≡ None)
  pub ended : nodes ≡ [] → v.update ≡ no_update

-- inside a section
abbrev pub IsReleasing : View → ℕ → List ℕ → Type 0
IsReleasing = IsGivingBack false

-- a try may give up at each of its steps before it fills its slots
abbrev pub GiveUpLaw : Type 0
GiveUpLaw = (v : View) (n : ℕ) (nodes : List ℕ) → IsTrying v n nodes → IsReleasing v n nodes

-- a pass inside a section that has locked no node may leave it
abbrev pub NothingLockedLaw : Type 0
NothingLockedLaw =
    (v : View) (n : ℕ) → v.joined ≡ false → v.number ≡ Some n → IsInside v → v.held.nodes ≡ [] → v.update ≡ no_update → IsReleasing v n []

-- the first of the locks may be given back, and then the others are left
pub record GivesBackNext (even : Bool) (z : Layout) (v : View) (seat n node : ℕ) (rest : List ℕ) : Type 0 where
  pub may : May z v (event_at z seat Unlock (Node Lock node) 0)
  pub released : IsGivingBack even (unlocked_view v node) n rest
  pub keeps : KeepsOwned v (unlocked_view v node)

abbrev pub UnlockStepLaw : Type 0
UnlockStepLaw =
    (even : Bool) (z : Layout) (v : View) (seat n node : ℕ) (rest : List ℕ) → IsGivingBack even v n (node ∷ rest) → GivesBackNext even z v seat n node rest

-- outside a section, with nothing read, locked or under way
pub record HasLeft (v : View) (n : ℕ) : Type 0 where
  pub live : v.joined ≡ false
  pub own : v.number ≡ Some n
  pub outside : is_even v.section_word ≡ true
  pub reading : v.reading ≡ no_reading
  pub unlocked : v.held.nodes ≡ []
  pub update : v.update ≡ no_update

-- and with nothing announced
pub record IsResting (v : View) (n : ℕ) : Type 0 where
  pub has_left : HasLeft v n
  pub unannounced : v.announced ≡ 0

-- with no lock left the section may be left
pub record LeavesLast (z : Layout) (v : View) (seat n : ℕ) : Type 0 where
  pub may : May z v (event_at z seat Leave (Section n) (left_word v.section_word))
  pub has_left : HasLeft (left v (left_word v.section_word)) n
  pub keeps : KeepsOwned v (left v (left_word v.section_word))

abbrev pub LeaveStepLaw : Type 0
LeaveStepLaw = (z : Layout) (v : View) (seat n : ℕ) → IsReleasing v n [] → LeavesLast z v seat n

-- after the section the announcement may be taken back
pub record TakesBack (z : Layout) (v : View) (seat n : ℕ) : Type 0 where
  pub may : May z v (event_at z seat Announce (Announced n) 0)
  pub rests : IsResting (announced_view v 0) n
  pub keeps : KeepsOwned v (announced_view v 0)

abbrev pub TakeBackStepLaw : Type 0
TakeBackStepLaw = (z : Layout) (v : View) (seat n : ℕ) → HasLeft v n → TakesBack z v seat n
