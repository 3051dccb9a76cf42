-- The end of a removal with a far successor, in two halves around its wait. The first half ends its section: the
-- removed node is marked, its copy is linked, and the locks of the removed node and of its parent are given back. Those
-- of the successor and of its parent are kept. After the wait the successor is marked and unlinked, and then these
-- locks are given back.
use Rattle.std.specs.Prelude.{◌≡◌, ℕ, ◌+◌, ◌<◌, ◌≤◌, ◌==◌, List, [], ◌∷◌, Bool, true, false, map, Option, Some, is_some}
use Rattle.index_words.specs.declared.view.View.{View}
use Rattle.index_words.specs.declared.view.update.HeldNode.{HeldNode}
use Rattle.index_words.specs.declared.view.update.Unlinking.{Unlinking}
use Rattle.key_map.specs.Lists.{count, Every}
use Rattle.core_grace.specs.Batches.{all_passed}
use Rattle.core_grace.specs.Holds.{held_slots}
use Rattle.core_grace.specs.Sections.{is_even, left_word}
use Rattle.core_events.specs.LockMoves.{unlocked_view, with_mark}
use Rattle.core_events.specs.Moves.{left}
use Rattle.core_events.specs.PlainMoves.{tag_loaded, link_set, tag_set}
use Rattle.core_events.specs.UpdateNeeds.{held_at, side_of}
use Rattle.core_events.specs.Waits.{has_no_lock, looked_waiting}
use Rattle.core_invariant.specs.Readers.{IsLocked}
use Rattle.core_laws.specs.PlainNeeds.{MayReadTag, MaySetLink, MaySetTag}
use Rattle.core_laws.specs.ViewNeeds.{IsKnownMarked, MayMark, MayUnlock}
use Rattle.core_laws.specs.Waits.{MayLeaveWaiting, MayLookWaiting}
use Rattle.core_updates.specs.declared.plan.JoinPlan.{JoinPlan}
use Rattle.core_updates.specs.declared.plan.Plan.TheVariants.{Join}
use Rattle.core_updates.specs.declared.plan.PlanSlots.{PlanSlots}
use Rattle.core_updates.specs.SetLinks.{SetLink, set_of, nulls_of}
use Rattle.plan_laws.specs.Prunes.{HasNumbered}
use Rattle.plan_laws.specs.Releases.{IsGivingBack}

-- the successor's link is not one of the removed node
abbrev pub IsFar : JoinPlan → Type 0
IsFar p = (p.next.at.node == p.node) ≡ false

-- the links that are set: that to the copy, and that to the successor
abbrev pub copy_set : JoinPlan → ℕ → SetLink
copy_set p copy = record { at = p.at; child = copy }

abbrev pub far_set : JoinPlan → SetLink
far_set p = record { at = p.next.at; child = p.next.right }

abbrev pub far_unlinking : JoinPlan → Unlinking
far_unlinking p = record { successor = p.next.node; parent = p.next.at.node; side = p.next.at.side; replaced = p.node }

-- the locks that are kept over the wait
abbrev pub kept_locks : JoinPlan → List ℕ
kept_locks p = p.next.at.node ∷ p.next.node ∷ []

abbrev pub far_locks : JoinPlan → List ℕ
far_locks p = p.at.node ∷ p.node ∷ kept_locks p

-- under the lock of the node this part of it is known to be `x`
pub record Knows (v : View) (k : ℕ) (part : HeldNode → Option ℕ) (x : ℕ) : Type 0 where
  pub node : HeldNode
  pub at : held_at k v.held.nodes ≡ Some node
  pub is : part node ≡ Some x

abbrev pub KnowsMark : View → ℕ → ℕ → Type 0
KnowsMark v k x = Knows v k (λ (h : HeldNode). h.mark) x

-- the tag of the link to the successor is known
abbrev pub KnowsTag : JoinPlan → ℕ → View → Type 0
KnowsTag p tag v = Knows v p.next.at.node (λ (h : HeldNode). (side_of p.next.at.side h).tag) tag

-- a pass whose removal with a far successor has raised, and is done with its entries. It has these nodes locked, in
-- this order, and no others; those of them that it took out are known to be marked, but for the successor; these links
-- are still to be set; and the parent of the successor was found unmarked
pub record IsParting (even : Bool) (v : View) (n : ℕ) (p : JoinPlan) (nodes : List ℕ) (sets : List SetLink) : Type 0 where
  pub live : v.joined ≡ false
  pub own : v.number ≡ Some n
  pub word : is_even v.section_word ≡ even
  pub once : (k : ℕ) → count k nodes ≤ 1
  pub locked : held_slots v.held.nodes ≡ nodes
  pub raised : is_some v.update.raised ≡ true
  pub taken : v.update.taken ≡ p.node ∷ p.next.node ∷ []
  pub idle : v.update.pending ≡ []
  pub marked : Every (IsKnownMarked v.update) v.held.nodes
  pub unset : map set_of v.update.unset ≡ sets
  pub owed : v.update.owed ≡ nulls_of (far_set p ∷ [])
  pub unlinking : v.update.unlinking ≡ Some (far_unlinking p)
  pub unmarked : KnowsMark v p.next.at.node 0

-- at the wait, and before it where the first two locks are given back: the tag is known, and one link is left to be set
pub record IsParted (even : Bool) (v : View) (n : ℕ) (p : JoinPlan) (tag : ℕ) (nodes : List ℕ) : Type 0 where
  pub parting : IsParting even v n p nodes (far_set p ∷ [])
  pub tagged : KnowsTag p tag v

-- after the numbers and the cuts the removed node may be marked
pub record StartsParting (v : View) (n : ℕ) (p : JoinPlan) (copy : ℕ) : Type 0 where
  pub may : MayMark v p.node
  pub parting : IsParting false (with_mark v p.node 1) n p (far_locks p) (copy_set p copy ∷ far_set p ∷ [])

abbrev pub StartPartingLaw : Type 0
StartPartingLaw =
    (v : View) (n : ℕ) (p : JoinPlan) (slots : PlanSlots) → HasNumbered v n (Join p) slots → IsFar p → 0 < slots.node → StartsParting v n p slots.node

-- then the copy may be linked
pub record LinksCopy (v : View) (n : ℕ) (p : JoinPlan) (copy : ℕ) : Type 0 where
  pub may : MaySetLink v p.at.node p.at.side copy
  pub parting : IsParting false (link_set v p.at.node p.at.side copy) n p (far_locks p) (far_set p ∷ [])

abbrev pub LinkCopyLaw : Type 0
LinkCopyLaw = (v : View) (n : ℕ) (p : JoinPlan) (copy : ℕ) → IsParting false v n p (far_locks p) (copy_set p copy ∷ far_set p ∷ []) → LinksCopy v n p copy

-- the tag of the link to the successor may be loaded, as the node is a locked one
pub record LoadsFarTag (v : View) (n : ℕ) (p : JoinPlan) : Type 0 where
  pub locked : IsLocked v p.next.at.node
  pub may : p.next.at.node ≤ v.layout.nodes → MayReadTag v p.next.at.node
  pub parted : (tag : ℕ) → IsParted false (tag_loaded v p.next.at.node p.next.at.side tag) n p tag (far_locks p)

abbrev pub LoadFarTagLaw : Type 0
LoadFarTagLaw = (v : View) (n : ℕ) (p : JoinPlan) → IsParting false v n p (far_locks p) (far_set p ∷ []) → LoadsFarTag v n p

-- the locks of the removed node and of its parent may be given back
pub record UnlocksUpper (v : View) (n : ℕ) (p : JoinPlan) (tag node : ℕ) (rest : List ℕ) : Type 0 where
  pub may : MayUnlock v node
  pub parted : IsParted false (unlocked_view v node) n p tag rest

abbrev pub UnlockUpperLaw : Type 0
UnlockUpperLaw =
    (v : View) (n : ℕ) (p : JoinPlan) (tag node : ℕ) (rest : List ℕ) → IsParted false v n p tag (node ∷ rest) → 0 < count p.next.at.node rest
    → 0 < count p.next.node rest → UnlocksUpper v n p tag node rest

-- the section may be left
pub record LeavesParted (v : View) (n : ℕ) (p : JoinPlan) (tag : ℕ) : Type 0 where
  pub may : MayLeaveWaiting v n
  pub parted : IsParted true (left v (left_word v.section_word)) n p tag (kept_locks p)

abbrev pub LeavePartedLaw : Type 0
LeavePartedLaw = (v : View) (n : ℕ) (p : JoinPlan) (tag : ℕ) → IsParted false v n p tag (kept_locks p) → LeavesParted v n p tag

-- outside of it each other pass may be looked at
pub record LooksParted (v : View) (n : ℕ) (p : JoinPlan) (tag other : ℕ) : Type 0 where
  pub may : MayLookWaiting v other
  pub locked : has_no_lock v ≡ false
  pub parted : (word : ℕ) → IsParted true (looked_waiting v other word) n p tag (kept_locks p)

abbrev pub LookPartedLaw : Type 0
LookPartedLaw =
    (v : View) (n : ℕ) (p : JoinPlan) (tag other : ℕ) → IsParted true v n p tag (kept_locks p) → ¬ (n ≡ other) → other < v.layout.passes
    → LooksParted v n p tag other

-- the wait is over: each other pass was passed
abbrev pub HasPassedAll : View → Type 0
HasPassedAll v = all_passed v.layout.passes v.number v.update.waiting.passed ≡ true

-- then the successor may be marked
pub record MarksFar (v : View) (n : ℕ) (p : JoinPlan) (tag : ℕ) : Type 0 where
  pub may : MayMark v p.next.node
  pub parted : IsParted true (with_mark v p.next.node 1) n p tag (kept_locks p)
  pub known : KnowsMark (with_mark v p.next.node 1) p.next.node 1

abbrev pub MarkFarLaw : Type 0
MarkFarLaw = (v : View) (n : ℕ) (p : JoinPlan) (tag : ℕ) → IsParted true v n p tag (kept_locks p) → MarksFar v n p tag

-- and be unlinked. Where that leaves a null link its tag may be raised. Then the locks that were kept may be given back
pub record RaisesFarTag (w : View) (n : ℕ) (p : JoinPlan) (tag : ℕ) : Type 0 where
  pub may : MaySetTag w p.next.at.node p.next.at.side tag
  pub released : IsGivingBack true (tag_set w p.next.at.node p.next.at.side (tag + 1)) n (kept_locks p)

pub record UnlinksFar (v : View) (n : ℕ) (p : JoinPlan) (tag : ℕ) (w : View) : Type 0 where
  pub may : MaySetLink v p.next.at.node p.next.at.side p.next.right
  pub null : p.next.right ≡ 0 → RaisesFarTag w n p tag
  pub some : ¬ (p.next.right ≡ 0) → IsGivingBack true w n (kept_locks p)

abbrev pub UnlinkFarLaw : Type 0
UnlinkFarLaw =
    (v : View) (n : ℕ) (p : JoinPlan) (tag : ℕ) → IsParted true v n p tag (kept_locks p) → KnowsMark v p.next.node 1
    → HasPassedAll v → UnlinksFar v n p tag (link_set v p.next.at.node p.next.at.side p.next.right)
