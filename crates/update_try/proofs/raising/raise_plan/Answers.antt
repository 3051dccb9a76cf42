use Rattle.std.proofs.Common.{◌≡◌, ℕ, List, ◌∙◌, ap, sym, subst}
use Rattle.index_words.specs.declared.view.View.{View}
use Rattle.key_map.specs.declared.update.Change.{Change}
use Rattle.core_updates.specs.Held.{raise_of}
use Rattle.core_updates.specs.Plans.{key_of, change_of, new_node_of}
use Rattle.core_updates.specs.Ready.{update_of}
use Rattle.plan_laws.specs.Raises.{HasFinalised, update_by}
use Rattle.table_rule.specs.Running.{Happened}
use Rattle.table_steps.proofs.Places.{raised_here}
use Rattle.table_steps.specs.Raises.{HasNew, HoldsEntries, MayRaiseBy, nodes_out}
use Rattle.update_try.specs.Preparing.{IsRaisedBy, new_slots_of}
use Rattle.update_try.proofs.Raised.{answers_now, known_entries, may_raise, new_is_ready, raised_now}
use Rattle.update_try.proofs.raising.raise_plan.Goals as goal

pub raise-requires-clause-may : goal.raise-requires-clause-may
raise-requires-clause-may c =
    let p = c.args.pass.now in
    let plan = c.args.plan.now in
    let slots = c.args.slots.now in
    let may = may_raise c.ready_plans_may_raise.ensures.plan p plan slots c.requires.prepared c.requires.apart c.requires.node c.requires.left c.args.line in
    let new : c.new_slots-new.result ≡ new_slots_of (new_node_of plan slots) = c.new_slots-new.ensures ∙ ap new_slots_of c.new_node.ensures in
    subst (λ k. MayRaiseBy p.view.layout p.view (update_of p.number c.args.line k c.change.result) c.new_slots-new.result c.out_slots-out.result) (sym c.key_of.ensures.key)
    (subst (λ (x : Change). MayRaiseBy p.view.layout p.view (update_of p.number c.args.line (key_of plan) x) c.new_slots-new.result c.out_slots-out.result) (sym c.change.ensures)
    (subst (λ xs. MayRaiseBy p.view.layout p.view (update_of p.number c.args.line (key_of plan) (change_of plan)) xs c.out_slots-out.result) (sym new)
    (subst (λ xs. MayRaiseBy p.view.layout p.view (update_of p.number c.args.line (key_of plan) (change_of plan)) (new_slots_of (new_node_of plan slots)) xs) (sym c.out_slots-out.ensures) may)))

pub raise-requires-clause-new : goal.raise-requires-clause-new
raise-requires-clause-new c =
    let p = c.args.pass.now in
    let plan = c.args.plan.now in
    let slots = c.args.slots.now in
    let new : c.new_slots-new.result ≡ new_slots_of (new_node_of plan slots) = c.new_slots-new.ensures ∙ ap new_slots_of c.new_node.ensures in
    subst (HasNew p.view) (sym new)
    (new_is_ready c.ready_plans_may_raise.ensures.plan p plan slots c.requires.prepared c.requires.apart c.requires.node c.requires.left)

pub raise-requires-clause-known : goal.raise-requires-clause-known
raise-requires-clause-known c =
    let p = c.args.pass.now in
    let plan = c.args.plan.now in
    let slots = c.args.slots.now in
    subst (λ xs. (es : List ℕ) × HoldsEntries p.view (nodes_out xs) es) (sym c.out_slots-out.ensures)
    (known_entries c.ready_plans_may_raise.ensures.plan p plan slots c.requires.prepared c.requires.apart c.requires.node c.requires.left)

pub returns-clause-raised : goal.returns-clause-raised
returns-clause-raised c =
    let p = c.args.pass.now in
    let q = c.raise.new.self in
    let plan = c.args.plan.now in
    let slots = c.args.slots.now in
    let found = c.raise.ensures.event.0 in
    let event : Happened p.view.layout (raise_of p.view.layout p.seat (update_by p.number c.args.line plan)) p.view found q.view
    = subst (λ k. Happened p.view.layout (raise_of p.view.layout p.seat (update_of p.number c.args.line k (change_of plan))) p.view found q.view) c.key_of.ensures.key
    (subst (λ (x : Change). Happened p.view.layout (raise_of p.view.layout p.seat (update_of p.number c.args.line c.key_of.result x)) p.view found q.view) c.change.ensures c.raise.ensures.event.2) in
    let now = raised_now c.ready_plans_may_raise.ensures.plan p plan slots c.requires.prepared c.requires.apart c.requires.node c.requires.left c.args.line q found event in
    subst (λ k. HasFinalised q.view k plan slots c.raise.result 0) (sym c.raise.ensures.same.number)
    (subst (λ k. HasFinalised q.view p.number plan slots k 0) (sym c.raise.ensures.event.1) now)

pub returns-clause-reading : goal.returns-clause-reading
returns-clause-reading c = ap (λ (u : View). u.reading) c.raise.ensures.gives.view

pub returns-clause-counts : goal.returns-clause-counts
returns-clause-counts c = ap (λ (u : View). u.counts) c.raise.ensures.gives.view

pub returns-clause-answers : goal.returns-clause-answers
returns-clause-answers c =
    let p = c.args.pass.now in
    let q = c.raise.new.self in
    let plan = c.args.plan.now in
    let slots = c.args.slots.now in
    let found = c.raise.ensures.event.0 in
    let event : Happened p.view.layout (raise_of p.view.layout p.seat (update_by p.number c.args.line plan)) p.view found q.view
    = subst (λ k. Happened p.view.layout (raise_of p.view.layout p.seat (update_of p.number c.args.line k (change_of plan))) p.view found q.view) c.key_of.ensures.key
    (subst (λ (x : Change). Happened p.view.layout (raise_of p.view.layout p.seat (update_of p.number c.args.line c.key_of.result x)) p.view found q.view) c.change.ensures c.raise.ensures.event.2) in
    subst (IsRaisedBy p q c.args.line plan slots) (sym c.raise.ensures.event.1)
    (answers_now c.ready_plans_may_raise.ensures.plan p plan slots c.requires.prepared c.requires.apart c.requires.node c.requires.left c.args.line q found event)

pub returns-clause-raise : goal.returns-clause-raise
returns-clause-raise c =
    let p = c.args.pass.now in
    let q = c.raise.new.self in
    let plan = c.args.plan.now in
    let slots = c.args.slots.now in
    let found = c.raise.ensures.event.0 in
    let event : Happened p.view.layout (raise_of p.view.layout p.seat (update_by p.number c.args.line plan)) p.view found q.view
    = subst (λ k. Happened p.view.layout (raise_of p.view.layout p.seat (update_of p.number c.args.line k (change_of plan))) p.view found q.view) c.key_of.ensures.key
    (subst (λ (x : Change). Happened p.view.layout (raise_of p.view.layout p.seat (update_of p.number c.args.line c.key_of.result x)) p.view found q.view) c.change.ensures c.raise.ensures.event.2) in
    raised_here p (update_by p.number c.args.line plan) c.raise.result found q.view c.raise.ensures.event.1 event
