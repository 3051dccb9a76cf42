use Rattle.std.proofs.Common.{◌≡◌, ℕ, ◌+◌, ◌-◌, ◌≤◌, arith, subst, Some}
use Rattle.std.specs.List.{slice_get}
use Rattle.core_updates.specs.declared.plan.PlanSlots.{PlanSlots}
use Rattle.update_try.proofs.FreeSlots.{slots_free, slots_node, slots_apart}
use Rattle.update_try.proofs.slots.plan_slots.Goals as goal

pub returns-clause-free : goal.returns-clause-free
returns-clause-free c =
    let v = c.args.pass.now.view in
    let es = v.free.entries in
    let count = c.free_entries-entries.result in
    let e : ℕ = count - 4 in
    let many : 4 ≤ count = omega (arith, c.if-entries-lt4.false) in
    let slots : PlanSlots = record { node = c.node_at.result; at = c.entry_at.result; left = c.entry_at-2.result; right = c.entry_at-3.result; next = c.entry_at-4.result } in
    let to_at : count - 1 ≡ e + 3 = omega (arith, many) in
    let at : slice_get es (e + 3) ≡ Some slots.at = subst (λ i. slice_get es i ≡ Some slots.at) to_at c.entry_at.ensures.item in
    let to_left : count - 2 ≡ e + 2 = omega (arith, many) in
    let left : slice_get es (e + 2) ≡ Some slots.left = subst (λ i. slice_get es i ≡ Some slots.left) to_left c.entry_at-2.ensures.item in
    let to_right : count - 3 ≡ e + 1 = omega (arith, many) in
    let right : slice_get es (e + 1) ≡ Some slots.right = subst (λ i. slice_get es i ≡ Some slots.right) to_right c.entry_at-3.ensures.item in
    slots_free v c.facts.ensures slots (c.free_nodes-nodes.result - 1) e c.node_at.ensures at left right c.entry_at-4.ensures.item

pub returns-clause-apart : goal.returns-clause-apart
returns-clause-apart c =
    let v = c.args.pass.now.view in
    let es = v.free.entries in
    let count = c.free_entries-entries.result in
    let e : ℕ = count - 4 in
    let many : 4 ≤ count = omega (arith, c.if-entries-lt4.false) in
    let slots : PlanSlots = record { node = c.node_at.result; at = c.entry_at.result; left = c.entry_at-2.result; right = c.entry_at-3.result; next = c.entry_at-4.result } in
    let to_at : count - 1 ≡ e + 3 = omega (arith, many) in
    let at : slice_get es (e + 3) ≡ Some slots.at = subst (λ i. slice_get es i ≡ Some slots.at) to_at c.entry_at.ensures.item in
    let to_left : count - 2 ≡ e + 2 = omega (arith, many) in
    let left : slice_get es (e + 2) ≡ Some slots.left = subst (λ i. slice_get es i ≡ Some slots.left) to_left c.entry_at-2.ensures.item in
    let to_right : count - 3 ≡ e + 1 = omega (arith, many) in
    let right : slice_get es (e + 1) ≡ Some slots.right = subst (λ i. slice_get es i ≡ Some slots.right) to_right c.entry_at-3.ensures.item in
    slots_apart v c.facts.ensures slots (c.free_nodes-nodes.result - 1) e c.node_at.ensures at left right c.entry_at-4.ensures.item c.entry_at.ensures.small c.entry_at-4.ensures.small

pub returns-clause-node : goal.returns-clause-node
returns-clause-node c =
    let v = c.args.pass.now.view in
    let es = v.free.entries in
    let count = c.free_entries-entries.result in
    let e : ℕ = count - 4 in
    let many : 4 ≤ count = omega (arith, c.if-entries-lt4.false) in
    let slots : PlanSlots = record { node = c.node_at.result; at = c.entry_at.result; left = c.entry_at-2.result; right = c.entry_at-3.result; next = c.entry_at-4.result } in
    let to_at : count - 1 ≡ e + 3 = omega (arith, many) in
    let at : slice_get es (e + 3) ≡ Some slots.at = subst (λ i. slice_get es i ≡ Some slots.at) to_at c.entry_at.ensures.item in
    let to_left : count - 2 ≡ e + 2 = omega (arith, many) in
    let left : slice_get es (e + 2) ≡ Some slots.left = subst (λ i. slice_get es i ≡ Some slots.left) to_left c.entry_at-2.ensures.item in
    let to_right : count - 3 ≡ e + 1 = omega (arith, many) in
    let right : slice_get es (e + 1) ≡ Some slots.right = subst (λ i. slice_get es i ≡ Some slots.right) to_right c.entry_at-3.ensures.item in
    slots_node v c.facts.ensures slots (c.free_nodes-nodes.result - 1) e c.node_at.ensures at left right c.entry_at-4.ensures.item
