use Rattle.std.proofs.Common.{◌≡◌, ◌∙◌, List, ℕ, Some, None, sym, subst, slice_index_or}
use Rattle.std.specs.List.{slice_get}
use Rattle.std.proofs.lemmas.Option.{slice_get-get_or, slice_get_past}
use Rattle.core_updates.specs.Plans.{out_of, sets_of}
use Rattle.plan_laws.specs.PlainLinks.{IsSetting}
use Rattle.plan_laws.proofs.Finals.{mark_end, mark_start}
use Rattle.plan_laws.proofs.Frames.{keeps_owned}
use Rattle.update_try.proofs.Finals.{may_mark_out, marked_next, marked_keeps}
use Rattle.update_try.proofs.Steps.{owned_same, same_more, same_pass}
use Rattle.update_try.proofs.after_raise.mark_all.Goals as goal

pub nodes-init : goal.nodes-init
nodes-init c =
    let p = c.args.pass.now in
    (λ slots numbered. mark_start p.view p.number c.args.plan.now slots numbered, owned_same p.view, same_pass p)

pub mark-requires : goal.mark-requires
mark-requires c =
    let xs = c.as_slice-node-items.result.now in
    let same : xs ≡ out_of c.args.plan.now = c.as_slice-node-items.ensures.value ∙ c.out.ensures in
    let is = subst (λ (ys : List ℕ). slice_get ys c.nodes.node-index ≡ Some (slice_index_or xs c.nodes.node-index 0)) same (slice_get-get_or xs c.nodes.node-index 0 c.nodes-test.true) in
    let numbered = c.requires.numbered in
    record { may = may_mark_out c.nodes.pass.view c.args.pass.now.number c.args.plan.now numbered.0 c.nodes.node-index _ (c.nodes.invariant.0 numbered.0 numbered.1) is }

pub nodes-preserved : goal.nodes-preserved
nodes-preserved c =
    let xs = c.as_slice-node-items.result.now in
    let same : xs ≡ out_of c.args.plan.now = c.as_slice-node-items.ensures.value ∙ c.out.ensures in
    let is = subst (λ (ys : List ℕ). slice_get ys c.nodes.node-index ≡ Some (slice_index_or xs c.nodes.node-index 0)) same (slice_get-get_or xs c.nodes.node-index 0 c.nodes-test.true) in
    let v = c.nodes.pass.view in
    let w = c.mark.new.self.view in
    let n = c.args.pass.now.number in (
      λ slots numbered. marked_next v w n c.args.plan.now slots c.nodes.node-index _ (c.nodes.invariant.0 slots numbered) is c.mark.ensures.view,
      keeps_owned c.args.pass.now.view v w c.nodes.invariant.1 (marked_keeps v w _ c.mark.ensures.view),
      same_more c.args.pass.now c.nodes.pass c.mark.new.self c.nodes.invariant.2 c.mark.ensures.same,
    )

pub returns-clause-marked : goal.returns-clause-marked
returns-clause-marked c slots numbered =
    let xs = c.as_slice-node-items.result.now in
    let same : xs ≡ out_of c.args.plan.now = c.as_slice-node-items.ensures.value ∙ c.out.ensures in
    let none = subst (λ (ys : List ℕ). slice_get ys c.nodes.node-index ≡ None) same (slice_get_past xs c.nodes.node-index c.nodes-test.false) in
    let plan = c.args.plan.now in
    subst (λ k. IsSetting c.nodes.pass.view k plan (sets_of plan slots) (sets_of plan slots)) (sym c.nodes.invariant.2.number)
    (mark_end c.nodes.pass.view c.args.pass.now.number plan slots c.nodes.node-index (c.nodes.invariant.0 slots numbered) none)
