use Rattle.std.proofs.Common.{◌≡◌, ◌∙◌, ℕ, List, Some, None, inl, inr, ap, arith, sym, subst, slice_index_or}
use Rattle.std.specs.List.{slice_get}
use Rattle.std.proofs.lemmas.Bool.{cases_lt}
use Rattle.std.proofs.lemmas.Option.{slice_get-get_or, slice_get_past}
use Rattle.index_words.specs.declared.side.Side.TheVariants.{Left, Right}
use Rattle.core_updates.specs.Plans.{out_of}
use Rattle.plan_laws.specs.Looks.{HasLookedAll}
use Rattle.plan_laws.proofs.Items.{every-got, got-none}
use Rattle.table_rule.proofs.Lists.{get_within}
use Rattle.update_try.specs.Walked.{HoldsBundle}
use Rattle.update_try.proofs.FoundHeads.{bundles_on, looked_on, out_unmarked, search_more}
use Rattle.update_try.proofs.Outs.{bundle_kept}
use Rattle.update_try.proofs.Steps.{same_more}
use Rattle.update_try.proofs.heads.find_heads.Goals as goal

pub find_entries-requires-clause-unmarked : goal.find_entries-requires-clause-unmarked
find_entries-requires-clause-unmarked c =
    let p = c.args.pass.now in
    let xs = c.as_slice-node-items.result.now in
    let same : xs ≡ out_of c.args.plan.now = c.as_slice-node-items.ensures.value ∙ c.out.ensures in
    let is = subst (λ (ys : List ℕ). slice_get ys c.nodes.node-index ≡ Some (slice_index_or xs c.nodes.node-index 0)) same (slice_get-get_or xs c.nodes.node-index 0 c.nodes-test.true) in
    c.nodes.invariant.0.looks.unmarked _ (out_unmarked p.view p.number c.args.plan.now c.requires.looked c.nodes.node-index _ is)

pub find_entries-requires-in-nodes-clause-unmarked : goal.find_entries-requires-in-nodes-clause-unmarked
find_entries-requires-in-nodes-clause-unmarked c =
    let p = c.args.pass.now in
    let xs = c.as_slice-node-items.result.now in
    let same : xs ≡ out_of c.args.plan.now = c.as_slice-node-items.ensures.value ∙ c.out.ensures in
    let is = subst (λ (ys : List ℕ). slice_get ys c.nodes.node-index ≡ Some (slice_index_or xs c.nodes.node-index 0)) same (slice_get-get_or xs c.nodes.node-index 0 c.nodes-test.true) in
    c.find_entries.ensures.keeps.looks.unmarked _ (c.nodes.invariant.0.looks.unmarked _ (out_unmarked p.view p.number c.args.plan.now c.requires.looked c.nodes.node-index _ is))

pub nodes-preserved : goal.nodes-preserved
nodes-preserved c =
    let p = c.args.pass.now in
    let q = c.nodes.pass in
    let r = c.find_entries.new.pass in
    let s = c.find_entries-in-nodes.new.pass in
    let first = c.find_entries.ensures in
    let second = c.find_entries-in-nodes.ensures in
    let i = c.nodes.node-index in
    let xs = c.as_slice-node-items.result.now in
    let same : xs ≡ out_of c.args.plan.now = c.as_slice-node-items.ensures.value ∙ c.out.ensures in
    let k : ℕ = slice_index_or xs i 0 in
    let is : slice_get (out_of c.args.plan.now) i ≡ Some k = subst (λ (ys : List ℕ). slice_get ys i ≡ Some k) same (slice_get-get_or xs i 0 c.nodes-test.true) in (
      search_more p.view q.view s.view c.nodes.invariant.0 (search_more q.view r.view s.view first.keeps second.keeps),
      same_more p q s c.nodes.invariant.1 (same_more q r s first.same second.same),
      λ place node low at. elim (cases_lt place i) as (λ _. HoldsBundle s.view node Left × HoldsBundle s.view node Right) [
        | inl below ↦ bundles_on r.view s.view node second.nexts second.heads (bundles_on q.view r.view node first.nexts first.heads (c.nodes.invariant.2 place node below at))
        | inr above ↦
            let last : place ≡ i = omega (arith, low, above) in
            let one : Some k ≡ Some node = sym is ∙ sym (ap (slice_get (out_of c.args.plan.now)) last) ∙ at in
            let here : k ≡ node = some_same k node one in
            subst (λ n. HoldsBundle s.view n Left × HoldsBundle s.view n Right) here
            (bundle_kept r.view s.view k Left second.nexts (λ head. second.heads.head k head Left) first.bundle, second.bundle)
      ],
    )
  where
    some_same : (a b : ℕ) → Some a ≡ Some b → a ≡ b
    some_same a b e = cc

pub find_fronts-requires : goal.find_fronts-requires
find_fronts-requires c =
    let p = c.args.pass.now in
    let q = c.nodes.pass in
    record {
      looked = subst (λ n. HasLookedAll q.view n c.args.plan.now) (sym c.nodes.invariant.1.number) (looked_on p.view q.view p.number c.args.plan.now c.nodes.invariant.0 c.requires.looked);
    }

pub returns-clause-walked : goal.returns-clause-walked
returns-clause-walked c =
    let v = c.nodes.pass.view in
    let w = c.find_fronts.new.pass.view in
    let xs = c.as_slice-node-items.result.now in
    let same : xs ≡ out_of c.args.plan.now = c.as_slice-node-items.ensures.value ∙ c.out.ensures in
    let none : slice_get (out_of c.args.plan.now) c.nodes.node-index ≡ None = subst (λ (ys : List ℕ). slice_get ys c.nodes.node-index ≡ None) same (slice_get_past xs c.nodes.node-index c.nodes-test.false) in
    every-got (λ k. HoldsBundle w k Left × HoldsBundle w k Right) (out_of c.args.plan.now)
    (λ place node at. bundles_on v w node c.find_fronts.ensures.nexts c.find_fronts.ensures.known
    (c.nodes.invariant.2 place node (omega (arith, got-none (out_of c.args.plan.now) c.nodes.node-index none, get_within (out_of c.args.plan.now) place node at)) at))
