-- A try puts its entries in front of bundles.
use Rattle.std.proofs.Common.{◌≡◌, ℕ, zero, suc, ◌+◌, ◌^◌, ◌<◌, ◌≤◌, ◌⊎◌, inl, inr, ◌∷◌, length, true, refl, ap, sym, ◌∙◌, subst, arith, Option, Some, None}
use Rattle.std.specs.List.{slice_get}
use Rattle.index_words.specs.declared.view.View.{View}
use Rattle.index_words.specs.declared.word.Part.TheVariants.{Stamp as Number, Next}
use Rattle.index_words.specs.declared.word.Word.{Word}
use Rattle.index_words.specs.declared.word.Word.TheVariants.{Entry}
use Rattle.key_map.specs.Lists.{count}
use Rattle.core_events.specs.UpdateMoves.{prepared}
use Rattle.core_events.specs.UpdateNeeds.{held_at, is_written}
use Rattle.core_laws.specs.ViewNeeds.{MayPrepare, HasFilled as HasPut}
use Rattle.core_updates.specs.declared.plan.Plan.{Plan}
use Rattle.core_updates.specs.declared.plan.PlanSlots.{PlanSlots}
use Rattle.core_updates.specs.declared.plan.Front.{Front}
use Rattle.core_updates.specs.declared.plan.Heads.{Heads}
use Rattle.core_updates.specs.PlanReady.{HoldsFill}
use Rattle.core_updates.specs.Plans.{front_of, fronts_of, next_front_of, or_none}
use Rattle.core_updates.proofs.PlanSteps.{held_once}
use Rattle.plan_laws.specs.Answers.{owned_entries}
use Rattle.plan_laws.specs.Fills.{AreApart}
use Rattle.plan_laws.specs.Frames.{KeepsPass}
use Rattle.plan_laws.specs.Fronts.{HasPrepared, behind_of}
use Rattle.plan_laws.proofs.Answered.{prepared_owns}
use Rattle.plan_laws.proofs.Frames.{steps_keep}
use Rattle.plan_laws.proofs.Fronts.{prepare_step}
use Rattle.plan_laws.proofs.PlanFronts.{entry_at, front_filled, front_is}
use Rattle.table_rule.specs.Homes.{IsLiveView}
use Rattle.table_rule.specs.Running.{table}
use Rattle.table_rule.proofs.Lists.{item_at}
use Rattle.update_try.specs.Walked.{HasWalkedAll}
use Rattle.update_try.proofs.Outs.{walked_prepared}

was_put : (v : View) (w : Word) (x : ℕ) → HasPut v w x → HasPut v w x
was_put v w x h = record { place = h.place; is = h.is }

-- the entries that are put in front have numbers of 32 bits
small_front : (slots : PlanSlots) (place : ℕ) → AreApart slots → entry_at slots place < 2 ^ 32
small_front slots zero a = a.at_small
small_front slots (suc place) a = a.next_small

pub may_prepare : (v : View) (n : ℕ) (plan : Plan) (slots : PlanSlots) (heads : Heads) (place : ℕ) (f : Front) → IsLiveView v → HasPrepared v n plan slots heads place → AreApart slots
    → slice_get (fronts_of plan slots) place ≡ Some f → MayPrepare v f.at.node f.at.side f.entry
may_prepare v n plan slots heads place f live h apart is =
    let s = live.stands in
    let d = h.due place f (omega arith) is in
    let head = d.look.holds.head in
    let put = front_filled (HoldsFill v) plan slots heads place f h.filled is in
    record {
      unraised = h.making.unraised;
      node = head.held;
      locked = subst (λ k. held_at k v.held.nodes ≡ Some head.held) head.node_is (held_once v.layout s.words s.views s.seat head.place v head.held s.rule s.at head.at);
      unmarked = d.look.holds.unmarked;
      head = head.loaded;
      loaded = head.head;
      old = elim d.look.numbered as (λ _. (head.loaded.entry ≡ 0) ⊎ (is_written head.loaded.stamp ≡ true)) [ inl none' ↦ inl (head.entry_is ∙ none') | inr written ↦ inr written ];
      free = d.free;
      small = subst (λ e. e < 2 ^ 32) (sym (front_is plan slots place f is).entry) (small_front slots place apart);
      next = subst (HasPut v (Entry Next f.entry)) (sym head.entry_is) (was_put v (Entry Next f.entry) (behind_of heads place) put.1.1.0);
      unnumbered = was_put v (Entry Number f.entry) 0 put.1.0;
    }

-- one more entry is in front of its bundle
pub record OneMore (v w : View) (n : ℕ) (plan : Plan) (slots : PlanSlots) (heads : Heads) (done : ℕ) : Type 0 where
  pub prepared : HasPrepared w n plan slots heads done
  pub keeps : KeepsPass v w
  pub walked : HasWalkedAll v plan → HasWalkedAll w plan
  pub entries : owned_entries w + 1 ≡ owned_entries v

pub prepared_next : (v w : View) (n : ℕ) (plan : Plan) (slots : PlanSlots) (heads : Heads) (place : ℕ) (f : Front) → IsLiveView v
    → HasPrepared v n plan slots heads place → AreApart slots → slice_get (fronts_of plan slots) place ≡ Some f → w ≡ prepared v f.at.side f.at.node f.entry
    → OneMore v w n plan slots heads (place + 1)
prepared_next v w n plan slots heads place f live h apart is now =
    let s = live.stands in
    let free : 0 < count f.entry v.free.entries = (h.due place f (omega arith) is).free in
    record {
      prepared = subst (λ (u : View). HasPrepared u n plan slots heads (place + 1)) (sym now) (prepare_step v.layout v 0 n plan slots heads place f h apart is).prepared;
      keeps = subst (KeepsPass v) (sym now) ((steps_keep v).prepared f.at.node f.entry f.at.side);
      walked = λ all. walked_prepared v w plan slots place f h.making.once is now all;
      entries = subst (λ (u : View). owned_entries u + 1 ≡ owned_entries v) (sym now)
          (prepared_owns (table v.layout s.words s.views) s.seat f.at.node f.entry f.at.side v s.rule (item_at s.views s.seat v s.at) free).1;
    }

-- the second front, where there is one
pub got_next : (o : Option Front) → slice_get (or_none o) 0 ≡ o
got_next None = refl
got_next (Some f) = refl

-- there are one or two
pub one-front : (plan : Plan) (slots : PlanSlots) → next_front_of plan slots ≡ None → length (fronts_of plan slots) ≡ 1
one-front plan slots none = ap (λ o. length (front_of plan slots ∷ or_none o)) none

pub two-fronts : (plan : Plan) (slots : PlanSlots) (f : Front) → next_front_of plan slots ≡ Some f → length (fronts_of plan slots) ≡ 2
two-fronts plan slots f some = ap (λ o. length (front_of plan slots ∷ or_none o)) some
