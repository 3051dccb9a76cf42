-- What is known of a view that holds locks outside of a section stays, where it keeps them; and a view that has not
-- raised, or has an entry pending, is no such one.
use Rattle.std.proofs.Common.{◌≡◌, ℕ, ◌⊎◌, cond, List, [], Bool, true, false, inl, inr, Option, Some, None, is_some}
use Rattle.index_words.specs.declared.side.Side.{Side}
use Rattle.index_words.specs.declared.side.Side.TheVariants.{Left, Right}
use Rattle.index_words.specs.declared.view.View.{View}
use Rattle.index_words.specs.declared.view.update.HeldNode.{HeldNode}
use Rattle.key_map.specs.Lists.{Every}
use Rattle.core_events.specs.PlainMoves.{link_known, tag_known}
use Rattle.core_invariant.specs.SectionRule.{IsKeptLock, Waits, IsWaiting}

-- with other knowledge of the same locked nodes
pub still_waits : (v : View) (nodes : List HeldNode) → (v.held.nodes ≡ [] → ⊥)
    → (Every (IsKeptLock v.update.taken) v.held.nodes → Every (IsKeptLock v.update.taken) nodes)
    → (v.held.nodes ≡ []) ⊎ IsWaiting v
    → (nodes ≡ []) ⊎ Waits v.number nodes v.update.raised v.update.added v.update.pending v.update.taken
still_waits v nodes holds step (inl none) = absurd (holds none)
still_waits v nodes holds step (inr waits) =
    inr (record { named = waits.named; past = waits.past; bare = waits.bare; done = waits.done; kept = step waits.kept })

pub link_keeps : (taken : List ℕ) (side : Side) (b : Bool) (x : ℕ) (h : HeldNode) → IsKeptLock taken h → IsKeptLock taken (cond b (link_known side x h) h)
link_keeps taken Left true x h is = is
link_keeps taken Right true x h is = is
link_keeps taken side false x h is = is

pub tag_keeps : (taken : List ℕ) (side : Side) (b : Bool) (x : ℕ) (h : HeldNode) → IsKeptLock taken h → IsKeptLock taken (cond b (tag_known side x h) h)
tag_keeps taken Left true x h is = is
tag_keeps taken Right true x h is = is
tag_keeps taken side false x h is = is

no_raise : (o : Option ℕ) → o ≡ None → is_some o ≡ true → ⊥
no_raise None is some = cc
no_raise (Some n) is some = cc

-- a view with locks that has not raised is inside a section
pub unraised_inside : (v : View) → (v.held.nodes ≡ [] → ⊥) → v.update.raised ≡ None → (v.held.nodes ≡ []) ⊎ IsWaiting v → ⊥
unraised_inside v holds unraised (inl none) = holds none
unraised_inside v holds unraised (inr waits) = no_raise v.update.raised unraised waits.past

-- so is one with an entry pending
pub pending_inside : (v : View) → (v.held.nodes ≡ [] → ⊥) → (v.update.pending ≡ [] → ⊥) → (v.held.nodes ≡ []) ⊎ IsWaiting v → ⊥
pending_inside v holds some (inl none) = holds none
pending_inside v holds some (inr waits) = some waits.done
