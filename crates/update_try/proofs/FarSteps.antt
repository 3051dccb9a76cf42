-- A removal with a far successor, step by step, before its wait and after it.
use Rattle.std.proofs.Common.{◌≡◌, ℕ, ◌+◌, ◌<◌, List, [], ◌∷◌, Bool, true, false, cond, eqb, refl, sym, subst, arith, Some, None}
use Rattle.std.specs.Prelude.{◌==◌}
use Rattle.std.proofs.lemmas.Bool.Decides.{nat_tests}
use Rattle.index_words.specs.declared.side.Side.{Side}
use Rattle.index_words.specs.declared.view.View.{View}
use Rattle.key_map.specs.Lists.{count}
use Rattle.key_map.specs.declared.update.Change.TheVariants.{Put}
use Rattle.core_grace.specs.Sections.{left_word}
use Rattle.core_events.specs.Announcing.{announced_view}
use Rattle.core_events.specs.LockMoves.{unlocked_view, with_mark}
use Rattle.core_events.specs.Moves.{left}
use Rattle.core_events.specs.PlainMoves.{link_set, tag_loaded, tag_set}
use Rattle.core_laws.specs.ViewNeeds.{MayUnlock}
use Rattle.core_updates.specs.declared.plan.JoinPlan.{JoinPlan}
use Rattle.core_updates.specs.declared.plan.Plan.{Plan}
use Rattle.core_updates.specs.declared.plan.Plan.TheVariants.{Grow, Replace, Lift, Join}
use Rattle.core_updates.specs.declared.plan.PlanSlots.{PlanSlots}
use Rattle.core_updates.specs.Plans.{change_of}
use Rattle.plan_laws.specs.Frames.{KeepsOwned}
use Rattle.plan_laws.specs.Parting.{IsFar, IsParting, IsParted, HasPassedAll, UnlocksUpper, UnlinksFar, copy_set, far_set, far_unlinking, far_locks, kept_locks}
use Rattle.plan_laws.specs.PlainLinks.{HasNotSearched, SetsAtOnce}
use Rattle.plan_laws.specs.Prunes.{HasNumbered}
use Rattle.plan_laws.specs.Releases.{IsGivingBack}
use Rattle.plan_laws.proofs.PlainLinks.{tag-keeps as tag_keeps}
use Rattle.plan_laws.proofs.Parting.{start_parting, link_copy, load_far_tag, unlock_upper, leave_parted}
use Rattle.plan_laws.proofs.FarUnlinks.{mark_far, unlink_far}
use Rattle.plan_laws.proofs.Releases.{all-done, known-marked, unlock_step}
use Rattle.table_steps.specs.Passes.{AtRest}
use Rattle.update_try.specs.declared.parting.Parted.{Parted}
use Rattle.update_try.specs.Parting.{far_of, HasParted}
use Rattle.update_try.proofs.Steps.{no_node}

-- the plan of a removal with a far successor is that removal
pub record IsFarPlan (plan : Plan) (p : JoinPlan) : Type 0 where
  pub plan_is : plan ≡ Join p
  pub far : IsFar p

pub far_plan : (plan : Plan) (p : JoinPlan) → far_of plan ≡ Some p → IsFarPlan plan p
far_plan (Join q) p is = by (q.next.at.node == q.node) refl is
  where
    by : (near : Bool) → (q.next.at.node == q.node) ≡ near → cond near None (Some q) ≡ Some p → IsFarPlan (Join q) p
    by true e h = cc
    by false e h = let same : q ≡ p = cc in subst (λ (r : JoinPlan). IsFarPlan (Join q) r) same (record { plan_is = refl; far = e })
far_plan _ p is = cc

-- and all other plans set their links in one section
pub near_plan : (plan : Plan) → far_of plan ≡ None → SetsAtOnce plan
near_plan (Join p) is = by (p.next.at.node == p.node) is
  where
    by : (near : Bool) → cond near None (Some p) ≡ None → cond near None (Some (far_unlinking p)) ≡ None
    by true h = refl
    by false h = cc
near_plan _ is = refl

-- a put is one of them
pub near_put : (plan : Plan) (val : ℕ) → change_of plan ≡ Put val → SetsAtOnce plan
near_put (Lift p) val is = cc
near_put (Join p) val is = cc
near_put _ val is = refl

same-node : (a : ℕ) → eqb a a ≡ true
same-node a = grind (arith, nat_tests)

first-counts : (k m : ℕ) → 0 < cond (eqb k k) 1 0 + m
first-counts k m = subst (λ b. 0 < cond b 1 0 + m) (sym (same-node k)) (omega arith)

-- before the wait
pub to_mark : (v w : View) (n : ℕ) (p : JoinPlan) (slots : PlanSlots) → HasNumbered v n (Join p) slots → IsFar p → 0 < slots.node → w ≡ with_mark v p.node 1
    → IsParting false w n p (far_locks p) (copy_set p slots.node ∷ far_set p ∷ [])
to_mark v w n p slots h far node now =
    subst (λ (u : View). IsParting false u n p (far_locks p) (copy_set p slots.node ∷ far_set p ∷ [])) (sym now) (start_parting v n p slots h far node).parting

pub to_copy : (v w : View) (n : ℕ) (p : JoinPlan) (copy : ℕ) → IsParting false v n p (far_locks p) (copy_set p copy ∷ far_set p ∷ []) → w ≡ link_set v p.at.node p.at.side copy
    → IsParting false w n p (far_locks p) (far_set p ∷ [])
to_copy v w n p copy h now = subst (λ (u : View). IsParting false u n p (far_locks p) (far_set p ∷ [])) (sym now) (link_copy v n p copy h).parting

pub to_tag : (v w : View) (n : ℕ) (p : JoinPlan) (tag : ℕ) → IsParting false v n p (far_locks p) (far_set p ∷ []) → w ≡ tag_loaded v p.next.at.node p.next.at.side tag
    → IsParted false w n p tag (far_locks p)
to_tag v w n p tag h now = subst (λ (u : View). IsParted false u n p tag (far_locks p)) (sym now) ((load_far_tag v n p h).parted tag)

-- the two locks that are kept stand after the first ones
parent-behind : (p : JoinPlan) → 0 < count p.next.at.node (kept_locks p)
parent-behind p = first-counts p.next.at.node (count p.next.at.node (p.next.node ∷ []))

successor-behind : (p : JoinPlan) → 0 < count p.next.node (kept_locks p)
successor-behind p = omega (arith, first-counts p.next.node 0)

pub unlocks_first : (v : View) (n : ℕ) (p : JoinPlan) (tag : ℕ) → IsParted false v n p tag (far_locks p) → UnlocksUpper v n p tag p.at.node (p.node ∷ kept_locks p)
unlocks_first v n p tag h =
    unlock_upper v n p tag p.at.node (p.node ∷ kept_locks p) h (omega (arith, parent-behind p)) (omega (arith, successor-behind p))

pub unlocks_second : (v : View) (n : ℕ) (p : JoinPlan) (tag : ℕ) → IsParted false v n p tag (p.node ∷ kept_locks p) → UnlocksUpper v n p tag p.node (kept_locks p)
unlocks_second v n p tag h = unlock_upper v n p tag p.node (kept_locks p) h (parent-behind p) (successor-behind p)

pub to_unlock : (v w : View) (n : ℕ) (p : JoinPlan) (tag node : ℕ) (rest : List ℕ) → UnlocksUpper v n p tag node rest → w ≡ unlocked_view v node → IsParted false w n p tag rest
to_unlock v w n p tag node rest next now = subst (λ (u : View). IsParted false u n p tag rest) (sym now) next.parted

pub to_wait : (v w : View) (n : ℕ) (p : JoinPlan) (tag : ℕ) → IsParted false v n p tag (kept_locks p) → w ≡ left v (left_word v.section_word) → IsParted true w n p tag (kept_locks p)
to_wait v w n p tag h now = subst (λ (u : View). IsParted true u n p tag (kept_locks p)) (sym now) (leave_parted v n p tag h).parted

-- the announcement is taken back
taken_back : (v : View) (n : ℕ) (p : JoinPlan) (tag : ℕ) → IsParted true v n p tag (kept_locks p) → IsParted true (announced_view v 0) n p tag (kept_locks p)
taken_back v n p tag parted =
    let h = parted.parting in
    record {
      parting = record {
        live = h.live;
        own = h.own;
        word = h.word;
        once = h.once;
        locked = h.locked;
        raised = h.raised;
        taken = h.taken;
        idle = h.idle;
        marked = h.marked;
        unset = h.unset;
        owed = h.owed;
        unlinking = h.unlinking;
        unmarked = record { node = h.unmarked.node; at = h.unmarked.at; is = h.unmarked.is };
      };
      tagged = record { node = parted.tagged.node; at = parted.tagged.at; is = parted.tagged.is };
    }

pub to_parted : (v w : View) (n : ℕ) (parted : Parted) → IsParted true v n parted.plan parted.tag (kept_locks parted.plan) → w ≡ announced_view v 0 → HasParted w n parted
to_parted v w n parted h now =
    subst (λ (u : View). HasParted u n parted) (sym now) (record { parted = taken_back v n parted.plan parted.tag h; unannounced = refl })

pub far-marked : (v w : View) (n : ℕ) (p : JoinPlan) (tag : ℕ) → IsParted true v n p tag (kept_locks p) → HasPassedAll v → w ≡ with_mark v p.next.node 1
    → UnlinksFar w n p tag (link_set w p.next.at.node p.next.at.side p.next.right)
far-marked v w n p tag h passed now =
    subst (λ (u : View). UnlinksFar u n p tag (link_set u p.next.at.node p.next.at.side p.next.right)) (sym now)
    (let next = mark_far v n p tag h in unlink_far (with_mark v p.next.node 1) n p tag next.parted next.known passed)

-- the locks that were kept are given back
pub gives-back : (v w : View) (n node : ℕ) (rest : List ℕ) → IsGivingBack true v n (node ∷ rest) → w ≡ unlocked_view v node → IsGivingBack true w n rest
gives-back v w n node rest h now = subst (λ (u : View). IsGivingBack true u n rest) (sym now) (unlock_step true v.layout v 0 n node rest h).released

pub gives-may : (v : View) (n node : ℕ) (rest : List ℕ) → IsGivingBack true v n (node ∷ rest) → MayUnlock v node
gives-may v n node rest r = record {
  locked = subst (λ ks. 0 < count node ks) (sym r.locked) (first-counts node (count node rest));
  done = r.done;
  marked = known-marked v.update v.held.nodes r.marked;
  set = all-done node v.update r.set;
}

pub at-rest : (v : View) (n : ℕ) → IsGivingBack true v n [] → v.announced ≡ 0 → AtRest v
at-rest v n h none = record { outside = record { even = h.word; unlocked = no_node v.held.nodes h.locked }; unannounced = none }

-- what each step keeps
pub link-keeps : (v w : View) (k : ℕ) (side : Side) (child : ℕ) → w ≡ link_set v k side child → KeepsOwned v w
link-keeps v w k side child now = subst (λ (u : View). KeepsOwned v u) (sym now) (record { layout = refl; joined = refl; number = refl; history = refl; counts = refl; free = refl; retired = refl; batch = refl })

pub tag-keeps : (v w : View) (k : ℕ) (side : Side) (tag : ℕ) → HasNotSearched v → w ≡ tag_loaded v k side tag → KeepsOwned v w
tag-keeps v w k side tag none now = subst (λ (u : View). KeepsOwned v u) (sym now) (tag_keeps v k side tag none)

pub raised-keeps : (v w : View) (k : ℕ) (side : Side) (tag : ℕ) → w ≡ tag_set v k side tag → KeepsOwned v w
raised-keeps v w k side tag now = subst (λ (u : View). KeepsOwned v u) (sym now) (record { layout = refl; joined = refl; number = refl; history = refl; counts = refl; free = refl; retired = refl; batch = refl })

pub unlock-keeps : (v w : View) (k : ℕ) → w ≡ unlocked_view v k → KeepsOwned v w
unlock-keeps v w k now = subst (λ (u : View). KeepsOwned v u) (sym now) (record { layout = refl; joined = refl; number = refl; history = refl; counts = refl; free = refl; retired = refl; batch = refl })

pub left-keeps : (v w : View) (x : ℕ) → w ≡ left v x → KeepsOwned v w
left-keeps v w x now = subst (λ (u : View). KeepsOwned v u) (sym now) (record { layout = refl; joined = refl; number = refl; history = refl; counts = refl; free = refl; retired = refl; batch = refl })

pub announced-keeps : (v w : View) (x : ℕ) → w ≡ announced_view v x → KeepsOwned v w
announced-keeps v w x now = subst (λ (u : View). KeepsOwned v u) (sym now) (record { layout = refl; joined = refl; number = refl; history = refl; counts = refl; free = refl; retired = refl; batch = refl })
