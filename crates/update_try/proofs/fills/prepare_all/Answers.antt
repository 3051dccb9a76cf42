use Rattle.std.proofs.Common.{◌≡◌, ◌∙◌, ap, sym, subst, arith, Some, None}
use Rattle.std.specs.List.{slice_get}
use Rattle.index_words.specs.declared.view.View.{View}
use Rattle.core_updates.specs.Plans.{fronts_of, next_front_of}
use Rattle.plan_laws.specs.Fronts.{HasPrepared}
use Rattle.update_try.specs.Preparing.{HasPreparedAll}
use Rattle.plan_laws.proofs.Frames.{keeps_pass}
use Rattle.plan_laws.proofs.Fronts.{prepare_start}
use Rattle.update_try.proofs.Fronts.{got_next, may_prepare, one-front, prepared_next, two-fronts}
use Rattle.update_try.proofs.fills.prepare_all.Goals as goal

pub prepare_front-requires : goal.prepare_front-requires
prepare_front-requires c =
    let p = c.args.pass.now in
    let n = p.number in
    let plan = c.args.plan.now in
    let slots = c.args.slots.now in
    let heads = c.args.heads in
    let start = prepare_start p.view n plan slots heads c.requires.filled in
    let f = c.front.result in
    let is : slice_get (fronts_of plan slots) 0 ≡ Some f = ap Some (sym c.front.ensures) in
    record { may = may_prepare p.view n plan slots heads 0 f c.facts.ensures start c.requires.apart is }

pub prepare_front-requires-in-Some : goal.prepare_front-requires-in-Some
prepare_front-requires-in-Some c =
    let p = c.args.pass.now in
    let n = p.number in
    let plan = c.args.plan.now in
    let slots = c.args.slots.now in
    let heads = c.args.heads in
    let start = prepare_start p.view n plan slots heads c.requires.filled in
    let f = c.front.result in
    let is : slice_get (fronts_of plan slots) 0 ≡ Some f = ap Some (sym c.front.ensures) in
    let q = c.prepare_front.new.pass in
    let first = prepared_next p.view q.view n plan slots heads 0 f c.facts.ensures start c.requires.apart is c.prepare_front.ensures.view in
    let g = c.in-Some.next in
    let there : next_front_of plan slots ≡ Some g = sym c.next_front.ensures ∙ c.in-Some.is in
    let second_is : slice_get (fronts_of plan slots) 1 ≡ Some g = got_next (next_front_of plan slots) ∙ there in
    record { may = may_prepare q.view n plan slots heads 1 g c.facts-in-Some.ensures first.prepared c.requires.apart second_is }

pub returns-in-Some-clause-prepared : goal.returns-in-Some-clause-prepared
returns-in-Some-clause-prepared c =
    let p = c.args.pass.now in
    let n = p.number in
    let plan = c.args.plan.now in
    let slots = c.args.slots.now in
    let heads = c.args.heads in
    let start = prepare_start p.view n plan slots heads c.requires.filled in
    let f = c.front.result in
    let is : slice_get (fronts_of plan slots) 0 ≡ Some f = ap Some (sym c.front.ensures) in
    let q = c.prepare_front.new.pass in
    let first = prepared_next p.view q.view n plan slots heads 0 f c.facts.ensures start c.requires.apart is c.prepare_front.ensures.view in
    let g = c.in-Some.next in
    let there : next_front_of plan slots ≡ Some g = sym c.next_front.ensures ∙ c.in-Some.is in
    let second_is : slice_get (fronts_of plan slots) 1 ≡ Some g = got_next (next_front_of plan slots) ∙ there in
    let w = c.prepare_front-in-Some.new.pass in
    let second = prepared_next q.view w.view n plan slots heads 1 g c.facts-in-Some.ensures first.prepared c.requires.apart second_is c.prepare_front-in-Some.ensures.view in
    subst (λ k. HasPreparedAll w.view k plan slots heads) (sym (c.prepare_front-in-Some.ensures.same.number ∙ c.prepare_front.ensures.same.number))
    (subst (HasPrepared w.view n plan slots heads) (sym (two-fronts plan slots g there)) second.prepared)

pub returns-in-Some-clause-walked : goal.returns-in-Some-clause-walked
returns-in-Some-clause-walked c =
    let p = c.args.pass.now in
    let n = p.number in
    let plan = c.args.plan.now in
    let slots = c.args.slots.now in
    let heads = c.args.heads in
    let start = prepare_start p.view n plan slots heads c.requires.filled in
    let f = c.front.result in
    let is : slice_get (fronts_of plan slots) 0 ≡ Some f = ap Some (sym c.front.ensures) in
    let q = c.prepare_front.new.pass in
    let first = prepared_next p.view q.view n plan slots heads 0 f c.facts.ensures start c.requires.apart is c.prepare_front.ensures.view in
    let g = c.in-Some.next in
    let there : next_front_of plan slots ≡ Some g = sym c.next_front.ensures ∙ c.in-Some.is in
    let second_is : slice_get (fronts_of plan slots) 1 ≡ Some g = got_next (next_front_of plan slots) ∙ there in
    let w = c.prepare_front-in-Some.new.pass in
    let second = prepared_next q.view w.view n plan slots heads 1 g c.facts-in-Some.ensures first.prepared c.requires.apart second_is c.prepare_front-in-Some.ensures.view in
    second.walked (first.walked c.requires.walked)

pub returns-in-Some-clause-keeps : goal.returns-in-Some-clause-keeps
returns-in-Some-clause-keeps c =
    let p = c.args.pass.now in
    let n = p.number in
    let plan = c.args.plan.now in
    let slots = c.args.slots.now in
    let heads = c.args.heads in
    let start = prepare_start p.view n plan slots heads c.requires.filled in
    let f = c.front.result in
    let is : slice_get (fronts_of plan slots) 0 ≡ Some f = ap Some (sym c.front.ensures) in
    let q = c.prepare_front.new.pass in
    let first = prepared_next p.view q.view n plan slots heads 0 f c.facts.ensures start c.requires.apart is c.prepare_front.ensures.view in
    let g = c.in-Some.next in
    let there : next_front_of plan slots ≡ Some g = sym c.next_front.ensures ∙ c.in-Some.is in
    let second_is : slice_get (fronts_of plan slots) 1 ≡ Some g = got_next (next_front_of plan slots) ∙ there in
    let w = c.prepare_front-in-Some.new.pass in
    let second = prepared_next q.view w.view n plan slots heads 1 g c.facts-in-Some.ensures first.prepared c.requires.apart second_is c.prepare_front-in-Some.ensures.view in
    keeps_pass p.view q.view w.view first.keeps second.keeps

pub returns-in-Some-clause-entries : goal.returns-in-Some-clause-entries
returns-in-Some-clause-entries c =
    let p = c.args.pass.now in
    let n = p.number in
    let plan = c.args.plan.now in
    let slots = c.args.slots.now in
    let heads = c.args.heads in
    let start = prepare_start p.view n plan slots heads c.requires.filled in
    let f = c.front.result in
    let is : slice_get (fronts_of plan slots) 0 ≡ Some f = ap Some (sym c.front.ensures) in
    let q = c.prepare_front.new.pass in
    let first = prepared_next p.view q.view n plan slots heads 0 f c.facts.ensures start c.requires.apart is c.prepare_front.ensures.view in
    let g = c.in-Some.next in
    let there : next_front_of plan slots ≡ Some g = sym c.next_front.ensures ∙ c.in-Some.is in
    let second_is : slice_get (fronts_of plan slots) 1 ≡ Some g = got_next (next_front_of plan slots) ∙ there in
    let w = c.prepare_front-in-Some.new.pass in
    let second = prepared_next q.view w.view n plan slots heads 1 g c.facts-in-Some.ensures first.prepared c.requires.apart second_is c.prepare_front-in-Some.ensures.view in
    omega (arith, first.entries, second.entries, two-fronts plan slots g there)

pub returns-in_default-clause-prepared : goal.returns-in_default-clause-prepared
returns-in_default-clause-prepared c =
    let p = c.args.pass.now in
    let n = p.number in
    let plan = c.args.plan.now in
    let slots = c.args.slots.now in
    let heads = c.args.heads in
    let start = prepare_start p.view n plan slots heads c.requires.filled in
    let f = c.front.result in
    let is : slice_get (fronts_of plan slots) 0 ≡ Some f = ap Some (sym c.front.ensures) in
    let q = c.prepare_front.new.pass in
    let first = prepared_next p.view q.view n plan slots heads 0 f c.facts.ensures start c.requires.apart is c.prepare_front.ensures.view in
    let none : next_front_of plan slots ≡ None = sym c.next_front.ensures ∙ c.in_default.is in
    subst (λ k. HasPreparedAll q.view k plan slots heads) (sym c.prepare_front.ensures.same.number)
    (subst (HasPrepared q.view n plan slots heads) (sym (one-front plan slots none)) first.prepared)

pub returns-in_default-clause-walked : goal.returns-in_default-clause-walked
returns-in_default-clause-walked c =
    let p = c.args.pass.now in
    let n = p.number in
    let plan = c.args.plan.now in
    let slots = c.args.slots.now in
    let heads = c.args.heads in
    let start = prepare_start p.view n plan slots heads c.requires.filled in
    let f = c.front.result in
    let is : slice_get (fronts_of plan slots) 0 ≡ Some f = ap Some (sym c.front.ensures) in
    let q = c.prepare_front.new.pass in
    let first = prepared_next p.view q.view n plan slots heads 0 f c.facts.ensures start c.requires.apart is c.prepare_front.ensures.view in
    first.walked c.requires.walked

pub returns-in_default-clause-keeps : goal.returns-in_default-clause-keeps
returns-in_default-clause-keeps c =
    let p = c.args.pass.now in
    let n = p.number in
    let plan = c.args.plan.now in
    let slots = c.args.slots.now in
    let heads = c.args.heads in
    let start = prepare_start p.view n plan slots heads c.requires.filled in
    let f = c.front.result in
    let is : slice_get (fronts_of plan slots) 0 ≡ Some f = ap Some (sym c.front.ensures) in
    let q = c.prepare_front.new.pass in
    let first = prepared_next p.view q.view n plan slots heads 0 f c.facts.ensures start c.requires.apart is c.prepare_front.ensures.view in
    first.keeps

pub returns-in_default-clause-entries : goal.returns-in_default-clause-entries
returns-in_default-clause-entries c =
    let p = c.args.pass.now in
    let n = p.number in
    let plan = c.args.plan.now in
    let slots = c.args.slots.now in
    let heads = c.args.heads in
    let start = prepare_start p.view n plan slots heads c.requires.filled in
    let f = c.front.result in
    let is : slice_get (fronts_of plan slots) 0 ≡ Some f = ap Some (sym c.front.ensures) in
    let q = c.prepare_front.new.pass in
    let first = prepared_next p.view q.view n plan slots heads 0 f c.facts.ensures start c.requires.apart is c.prepare_front.ensures.view in
    let none : next_front_of plan slots ≡ None = sym c.next_front.ensures ∙ c.in_default.is in
    omega (arith, first.entries, one-front plan slots none)

pub returns-in-Some-clause-counts : goal.returns-in-Some-clause-counts
returns-in-Some-clause-counts c = ap (λ (u : View). u.counts) c.prepare_front-in-Some.ensures.view ∙ ap (λ (u : View). u.counts) c.prepare_front.ensures.view

pub returns-in_default-clause-counts : goal.returns-in_default-clause-counts
returns-in_default-clause-counts c = ap (λ (u : View). u.counts) c.prepare_front.ensures.view
