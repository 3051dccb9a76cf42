use Rattle.std.proofs.Common.{[], sym, subst}
use Rattle.index_words.specs.declared.view.View.{View}
use Rattle.core_updates.specs.declared.plan.Front.{Front}
use Rattle.core_updates.specs.Plans.{sets_of}
use Rattle.plan_laws.specs.Frames.{KeepsOwned}
use Rattle.plan_laws.specs.PlainLinks.{IsSetting, SetsLink}
use Rattle.plan_laws.proofs.PlainLinks.{set_plain}
use Rattle.update_try.proofs.plain_links.set_plain.Goals as goal

pub set_link-requires : goal.set_link-requires
set_link-requires c =
    let p = c.args.pass.now in
    let plan = c.args.plan.now in
    let slots = c.args.slots.now in
    let sets = sets_of plan slots in
    record { may = (subst (λ (f : Front). SetsLink p.view p.number plan slots sets f) (sym c.front-front.ensures) (set_plain p.view p.number plan slots sets c.requires.near c.requires.marked)).may }

pub returns-clause-set : goal.returns-clause-set
returns-clause-set c =
    let p = c.args.pass.now in
    let q = c.set_link.new.self in
    let plan = c.args.plan.now in
    let slots = c.args.slots.now in
    let sets = sets_of plan slots in
    let next = subst (λ (f : Front). SetsLink p.view p.number plan slots sets f) (sym c.front-front.ensures) (set_plain p.view p.number plan slots sets c.requires.near c.requires.marked) in
    subst (λ k. IsSetting q.view k plan [] sets) (sym c.set_link.ensures.same.number) (subst (λ (u : View). IsSetting u p.number plan [] sets) (sym c.set_link.ensures.view) next.set)

pub returns-clause-keeps : goal.returns-clause-keeps
returns-clause-keeps c =
    let p = c.args.pass.now in
    let plan = c.args.plan.now in
    let slots = c.args.slots.now in
    let sets = sets_of plan slots in
    let next = subst (λ (f : Front). SetsLink p.view p.number plan slots sets f) (sym c.front-front.ensures) (set_plain p.view p.number plan slots sets c.requires.near c.requires.marked) in
    subst (λ (u : View). KeepsOwned p.view u) (sym c.set_link.ensures.view) next.keeps
