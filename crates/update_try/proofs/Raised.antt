-- The raise of a plan whose entries are all in front of their bundles.
use Rattle.std.proofs.Common.{◌≡◌, ℕ, ◌+◌, ◌^◌, ◌<◌, inl, inr, List, [], ◌∷◌, ◌++◌, length, cond, Bool, true, false, refl, ap, sym, ◌∙◌, subst, arith, Option, Some, None}
use Rattle.std.specs.Prelude.{◌==◌, IfSome}
use Rattle.std.proofs.lemmas.Option.{slice_get_past}
use Rattle.std.proofs.lemmas.Bool.{ne_eqb}
use Rattle.index_words.specs.declared.view.View.{View}
use Rattle.index_words.specs.declared.word.Word.TheVariants.{Stamp}
use Rattle.core_events.specs.Tables.{Table, held_by}
use Rattle.core_events.specs.UpdateMoves.{listed_entry}
use Rattle.core_updates.specs.declared.plan.Plan.{Plan}
use Rattle.core_updates.specs.declared.plan.Plan.TheVariants.{Grow, Replace, Lift, Join}
use Rattle.core_updates.specs.declared.plan.PlanSlots.{PlanSlots}
use Rattle.core_updates.specs.declared.plan.Fresh.{Fresh}
use Rattle.core_updates.specs.declared.plan.NewNode.{NewNode}
use Rattle.core_updates.specs.Held.{CanRaise, MayRaise, raise_of}
use Rattle.core_updates.specs.PlanReady.{HoldsNewNode, HoldsFreshEntry, PlanMayRaiseLaw}
use Rattle.core_updates.specs.Plans.{IsFormed, key_of, change_of, out_of, new_node_of, fronts_of, slot_of, head_of, fresh_to, sets_of, unlinks_of}
use Rattle.core_updates.specs.Ready.{update_of}
use Rattle.plan_laws.specs.Fills.{AreApart}
use Rattle.plan_laws.specs.Fronts.{IsReadyToRaise}
use Rattle.plan_laws.specs.Answers.{AnswersRaise}
use Rattle.plan_laws.specs.Raises.{HasFinalised, update_by, raised_at}
use Rattle.plan_laws.proofs.Answered.{answer}
use Rattle.plan_laws.proofs.Fronts.{prepare_end}
use Rattle.plan_laws.proofs.PlanFronts.{raise_step}
use Rattle.table_rule.specs.Running.{Happened, table}
use Rattle.table_rule.proofs.Happens.{happened_view, happened_word}
use Rattle.table_steps.specs.Passes.{Pass}
use Rattle.table_steps.specs.Raises.{HoldsEntries, slot_given, new_slot, nodes_out, HasNew, HasNewNode, IsGiven, MayRaiseBy}
use Rattle.update_try.specs.Preparing.{IsPrepared, new_slots_of, out_slots_of, IsRaisedBy}
use Rattle.update_try.proofs.Outs.{entries_held}

not_none : (k : ℕ) → 0 < k → (k == 0) ≡ false
not_none k some = ne_eqb k 0 (λ e. omega (arith, some, e))

listed_some : (k : ℕ) → 0 < k → listed_entry k ≡ k ∷ []
listed_some k some = ap (λ b. cond b [] (k ∷ [])) (not_none k some)

given_some : (k : ℕ) → 0 < k → slot_given k ≡ Some k
given_some k some = ap (λ b. cond b None (Some k)) (not_none k some)

-- the nodes that go out
pub out_is : (plan : Plan) → IsFormed plan → nodes_out (out_slots_of plan) ≡ out_of plan
out_is (Grow p) is = refl
out_is (Replace p) is = ap (λ xs. xs ++ []) (listed_some p.node is.some)
out_is (Lift p) is = ap (λ xs. xs ++ []) (listed_some p.node is.some)
out_is (Join p) is = (λ i. listed_some p.node is.node.some i ++ listed_some p.next.node is.next.some i)

-- the slot of the new node
pub slot_is : (plan : Plan) (slots : PlanSlots) → 0 < slots.node → slot_given (new_slot (new_slots_of (new_node_of plan slots))) ≡ slot_of (new_node_of plan slots)
slot_is (Lift p) slots some = refl
slot_is _ slots some = given_some slots.node some

-- the entries of its links
heads_apart : (left right low high : ℕ) → ¬ (left ≡ right) → head_of (fresh_to left low) ≡ head_of (fresh_to right high) → head_of (fresh_to left low) ≡ 0
heads_apart left right low high away = by (low == 0) (high == 0)
  where
    by : (a b : Bool) → head_of (cond a None (Some (record { entry = left; child = low }))) ≡ head_of (cond b None (Some (record { entry = right; child = high })))
        → head_of (cond a None (Some (record { entry = left; child = low }))) ≡ 0
    by true b e = refl
    by false true e = e
    by false false e = absurd (away e)

head_given : (v : View) (f : Option Fresh) → IfSome f (HoldsFreshEntry v) → IsGiven v (head_of f)
head_given v None h = inl refl
head_given v (Some f) h = inr h.free

new_ready : (v : View) (n : NewNode) (left right low high : ℕ) → n.left ≡ fresh_to left low → n.right ≡ fresh_to right high → ¬ (left ≡ right) → HoldsNewNode v n
    → HasNewNode v n.slot (head_of n.left) (head_of n.right)
new_ready v n left right low high low_is high_is away h = record {
  free = h.free;
  left_head = h.filled.1.1.1.0;
  right_head = h.filled.1.1.1.1.0;
  left_free = head_given v n.left h.left;
  right_free = head_given v n.right h.right;
  apart = λ e. ap head_of low_is ∙ heads_apart left right low high away (sym (ap head_of low_is) ∙ e ∙ ap head_of high_is);
}

pub has_new : (v : View) (plan : Plan) (slots : PlanSlots) → 0 < slots.node → AreApart slots → IfSome (new_node_of plan slots) (HoldsNewNode v) → HasNew v (new_slots_of (new_node_of plan slots))
has_new v (Grow p) slots some apart h =
    inr (some, new_ready v (record { slot = slots.node; pair = p.pair; left = None; right = None }) slots.left slots.right 0 0 refl refl apart.left_right h)
has_new v (Replace p) slots some apart h =
    inr (some, new_ready v (record { slot = slots.node; pair = p.pair; left = fresh_to slots.left p.left; right = fresh_to slots.right p.right }) slots.left slots.right p.left p.right refl refl apart.left_right h)
has_new v (Lift p) slots some apart h = inl (refl, (refl, refl))
has_new v (Join p) slots some apart h =
    let high : ℕ = cond (p.next.at.node == p.node) p.next.right p.right in
    inr (some, new_ready v (record { slot = slots.node; pair = p.next.pair; left = fresh_to slots.left p.left; right = fresh_to slots.right high }) slots.left slots.right p.left high refl refl apart.left_right h)

module _ (law : PlanMayRaiseLaw) (p : Pass) (plan : Plan) (slots : PlanSlots) (h : IsPrepared p.view p.number plan slots) (apart : AreApart slots) (node : 0 < slots.node)
    (left : 0 < p.view.history.left) where
  abbrev v : View
  v = p.view

  abbrev n : ℕ
  n = p.number

  ready : IsReadyToRaise v n plan slots
  ready = prepare_end v n plan slots h.heads (length (fronts_of plan slots)) h.prepared apart (slice_get_past (fronts_of plan slots) (length (fronts_of plan slots)) (omega arith))

  pub can_raise : CanRaise v n
  can_raise = record { live = h.prepared.making.working.live; own = h.prepared.making.working.own; unraised = h.prepared.making.unraised; left = left }

  pub out_same : nodes_out (out_slots_of plan) ≡ out_of plan
  out_same = out_is plan h.prepared.formed

  pub may_raise : (line : ℕ) → MayRaiseBy v.layout v (update_of n line (key_of plan) (change_of plan)) (new_slots_of (new_node_of plan slots)) (out_slots_of plan)
  may_raise line = (
    sets_of plan slots,
    unlinks_of plan,
    subst (λ ks. MayRaise v.layout v (update_of n line (key_of plan) (change_of plan)) (slot_given (new_slot (new_slots_of (new_node_of plan slots)))) ks (sets_of plan slots) (unlinks_of plan)) (sym out_same)
        (subst (λ o. MayRaise v.layout v (update_of n line (key_of plan) (change_of plan)) o (out_of plan) (sets_of plan slots) (unlinks_of plan)) (sym (slot_is plan slots node))
        (law v.layout v n line plan slots can_raise ready.ready)),
  )

  pub new_is_ready : HasNew v (new_slots_of (new_node_of plan slots))
  new_is_ready = has_new v plan slots node apart ready.ready.new

  pub known_entries : (es : List ℕ) × HoldsEntries v (nodes_out (out_slots_of plan)) es
  known_entries = subst (λ ks. (es : List ℕ) × HoldsEntries v ks es) (sym out_same) (entries_held v (out_of plan) h.walked)

  -- what the raise leaves
  module _ (line : ℕ) (q : Pass) (found : ℕ) (event : Happened v.layout (raise_of v.layout p.seat (update_by n line plan)) v found q.view) where
    abbrev t : Table
    t = table v.layout event.words event.views

    view_now : q.view ≡ raised_at t v (update_by n line plan)
    view_now = happened_view v.layout (raise_of v.layout p.seat (update_by n line plan)) v q.view found Stamp refl refl tt event

    stamp_now : held_by t Stamp ≡ found
    stamp_now = happened_word v.layout (raise_of v.layout p.seat (update_by n line plan)) v q.view found Stamp refl refl tt event

    pub raised_now : HasFinalised q.view n plan slots (found + 1) 0
    raised_now =
        subst (λ (u : View). HasFinalised u n plan slots (found + 1) 0) (sym view_now)
        (subst (λ k. HasFinalised (raised_at t v (update_by n line plan)) n plan slots (k + 1) 0) stamp_now
        (raise_step law t p.seat n line v plan slots event.rule event.seat ready apart can_raise).raised)

    pub answers_now : IsRaisedBy p q line plan slots (found + 1)
    answers_now = record {
      t = t;
      answers = subst (λ (u : View). AnswersRaise t n line v u plan slots) (sym view_now) (answer law t p.seat n line v plan slots event.rule event.seat ready apart can_raise);
      place_is = ap (λ k. k + 1) (sym stamp_now);
    }
