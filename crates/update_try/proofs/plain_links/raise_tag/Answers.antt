use Rattle.std.proofs.Common.{◌≡◌, ◌+◌, ◌∙◌, ap, sym, subst, true, false}
use Rattle.index_words.specs.declared.view.View.{View}
use Rattle.core_events.specs.PlainMoves.{tag_set}
use Rattle.core_laws.specs.PlainNeeds.{MaySetTag}
use Rattle.core_updates.specs.declared.plan.Front.{Front}
use Rattle.core_updates.specs.Plans.{front_of, locks_of}
use Rattle.plan_laws.specs.PlainLinks.{LoadsTag, owes_tag}
use Rattle.plan_laws.specs.Releases.{IsReleasing}
use Rattle.plan_laws.proofs.PlainLinks.{no_tag, raise_tag}
use Rattle.plan_laws.proofs.Frames.{keeps_owned}
use Rattle.table_steps.proofs.There.{locked_high}
use Rattle.update_try.proofs.FarSteps.{tag-keeps, raised-keeps}
use Rattle.update_try.proofs.plain_links.raise_tag.Goals as goal

pub load_tag-tag-requires : goal.load_tag-tag-requires
load_tag-tag-requires c =
    let p = c.args.pass.now in
    let plan = c.args.plan.now in
    let slots = c.args.slots.now in
    let owed : owes_tag plan (front_of plan slots) ≡ true = ap (owes_tag plan) (sym c.front-front.ensures) ∙ sym c.is_owed.ensures ∙ c.if-is_owed.true in
    let loads = subst (λ (f : Front). LoadsTag p.view p.number plan f) (sym c.front-front.ensures) (raise_tag p.view p.number plan slots c.requires.near c.requires.set owed) in
    record { may = loads.may (locked_high p.view c.facts.ensures _ loads.locked) }

pub set_tag-requires : goal.set_tag-requires
set_tag-requires c =
    let p = c.args.pass.now in
    let plan = c.args.plan.now in
    let slots = c.args.slots.now in
    let f = c.front-front.result in
    let tag = c.load_tag-tag.result in
    let owed : owes_tag plan (front_of plan slots) ≡ true = ap (owes_tag plan) (sym c.front-front.ensures) ∙ sym c.is_owed.ensures ∙ c.if-is_owed.true in
    let loads = subst (λ (f : Front). LoadsTag p.view p.number plan f) (sym c.front-front.ensures) (raise_tag p.view p.number plan slots c.requires.near c.requires.set owed) in
    record { may = subst (λ (w : View). MaySetTag w f.at.node f.at.side tag) (sym c.load_tag-tag.ensures.view) (loads.raises tag).may }

pub returns-then-is_owed-clause-raised : goal.returns-then-is_owed-clause-raised
returns-then-is_owed-clause-raised c =
    let p = c.args.pass.now in
    let q = c.set_tag.new.self in
    let plan = c.args.plan.now in
    let slots = c.args.slots.now in
    let f = c.front-front.result in
    let tag = c.load_tag-tag.result in
    let owed : owes_tag plan (front_of plan slots) ≡ true = ap (owes_tag plan) (sym c.front-front.ensures) ∙ sym c.is_owed.ensures ∙ c.if-is_owed.true in
    let loads = subst (λ (f : Front). LoadsTag p.view p.number plan f) (sym c.front-front.ensures) (raise_tag p.view p.number plan slots c.requires.near c.requires.set owed) in
    let view = c.set_tag.ensures.view ∙ ap (λ (w : View). tag_set w f.at.node f.at.side (tag + 1)) c.load_tag-tag.ensures.view in
    subst (λ k. IsReleasing q.view k (locks_of plan)) (sym (c.set_tag.ensures.same.number ∙ c.load_tag-tag.ensures.same.number))
    (subst (λ (w : View). IsReleasing w p.number (locks_of plan)) (sym view) (loads.raises tag).released)

pub returns-then-is_owed-clause-keeps : goal.returns-then-is_owed-clause-keeps
returns-then-is_owed-clause-keeps c =
    let v = c.args.pass.now.view in
    let t = c.load_tag-tag.new.self.view in
    keeps_owned v t c.set_tag.new.self.view (tag-keeps v t _ _ _ c.requires.set.unsearched c.load_tag-tag.ensures.view) (raised-keeps t c.set_tag.new.self.view _ _ _ c.set_tag.ensures.view)

pub returns-else-is_owed-clause-raised : goal.returns-else-is_owed-clause-raised
returns-else-is_owed-clause-raised c =
    let p = c.args.pass.now in
    let plan = c.args.plan.now in
    let slots = c.args.slots.now in
    let none : owes_tag plan (front_of plan slots) ≡ false = ap (owes_tag plan) (sym c.front-front.ensures) ∙ sym c.is_owed.ensures ∙ c.if-is_owed.false in
    no_tag p.view p.number plan slots c.requires.near c.requires.set none
