-- What follows the raise, step by step: what each asks, and what it leaves.
use Rattle.std.proofs.Common.{◌≡◌, ℕ, ◌+◌, ◌<◌, ◌∷◌, drop, refl, ap, sym, ◌∙◌, subst, Some}
use Rattle.std.specs.List.{slice_get}
use Rattle.index_words.specs.declared.view.View.{View}
use Rattle.key_map.specs.Lists.{count}
use Rattle.core_events.specs.LockMoves.{with_mark}
use Rattle.core_events.specs.UpdateMoves.{finalised}
use Rattle.core_laws.specs.ViewNeeds.{MayFinalise, MayMark}
use Rattle.core_updates.specs.declared.plan.Plan.{Plan}
use Rattle.core_updates.specs.declared.plan.PlanSlots.{PlanSlots}
use Rattle.core_updates.specs.Plans.{out_of, entries_in}
use Rattle.core_updates.specs.PlanEvents.{IsLockOf}
use Rattle.core_updates.proofs.PlanLocks.{locks_law}
use Rattle.plan_laws.specs.Fills.{AreApart}
use Rattle.plan_laws.specs.Frames.{KeepsOwned}
use Rattle.plan_laws.specs.Raises.{HasFinalised, HasMarked}
use Rattle.plan_laws.proofs.Finals.{finalise_step, mark_step}
use Rattle.plan_laws.proofs.Items.{drop-got, got-every, got-counts}
use Rattle.table_steps.specs.Updates.{place_of, raised_at}

pub may_finalise : (v : View) (n : ℕ) (plan : Plan) (slots : PlanSlots) (at place entry : ℕ) → HasFinalised v n plan slots at place → slice_get (entries_in plan slots) place ≡ Some entry
    → MayFinalise v entry (raised_at v)
may_finalise v n plan slots at place entry h is = record {
  pending = subst (λ es. 0 < count entry es) (sym (h.pending ∙ drop-got (entries_in plan slots) place entry is)) (got-counts (entry ∷ drop (place + 1) (entries_in plan slots)) 0 entry refl);
  raised = h.raised ∙ ap Some (sym (ap place_of h.raised));
}

pub finalised_next : (v w : View) (n : ℕ) (plan : Plan) (slots : PlanSlots) (at place entry : ℕ) → HasFinalised v n plan slots at place → AreApart slots
    → slice_get (entries_in plan slots) place ≡ Some entry → w ≡ finalised v entry → HasFinalised w n plan slots at (place + 1) × KeepsOwned v w
finalised_next v w n plan slots at place entry h apart is now =
    let next = finalise_step v.layout v 0 n plan slots at place entry h apart is in
    subst (λ (u : View). HasFinalised u n plan slots at (place + 1) × KeepsOwned v u) (sym now) (next.after, next.keeps)

pub may_mark_out : (v : View) (n : ℕ) (plan : Plan) (slots : PlanSlots) (place node : ℕ) → HasMarked v n plan slots place → slice_get (out_of plan) place ≡ Some node → MayMark v node
may_mark_out v n plan slots place node h is = record {
  locked = subst (λ ks. 0 < count node ks) (sym h.locked) (got-every (IsLockOf plan) (out_of plan) place node (locks_law plan slots).out is);
  taken = subst (λ ks. 0 < count node ks) (sym h.taken) (got-counts (out_of plan) place node is);
}

pub marked_next : (v w : View) (n : ℕ) (plan : Plan) (slots : PlanSlots) (place node : ℕ) → HasMarked v n plan slots place → slice_get (out_of plan) place ≡ Some node
    → w ≡ with_mark v node 1 → HasMarked w n plan slots (place + 1)
marked_next v w n plan slots place node h is now =
    subst (λ (u : View). HasMarked u n plan slots (place + 1)) (sym now) (mark_step v.layout v 0 n plan slots place node h is).marked

pub marked_keeps : (v w : View) (node : ℕ) → w ≡ with_mark v node 1 → KeepsOwned v w
marked_keeps v w node now =
    subst (KeepsOwned v) (sym now) (record { layout = refl; joined = refl; number = refl; history = refl; counts = refl; free = refl; retired = refl; batch = refl })
