use Rattle.std.proofs.Common.{◌∙◌, [], ◌∷◌, true, ap, sym, subst}
use Rattle.index_words.specs.declared.view.View.{View}
use Rattle.plan_laws.specs.Parting.{RaisesFarTag, kept_locks}
use Rattle.plan_laws.specs.Releases.{IsGivingBack}
use Rattle.plan_laws.proofs.Frames.{keeps_owned}
use Rattle.plan_laws.proofs.FarUnlinks.{mark_far}
use Rattle.update_try.proofs.FarSteps.{at-rest, far-marked, gives-back, gives-may, link-keeps, unlock-keeps}
use Rattle.update_try.proofs.Finals.{marked_keeps}
use Rattle.update_try.proofs.parting.unlink_successor.Goals as goal

pub mark-requires : goal.mark-requires
mark-requires c =
    let v = c.args.pass.now in
    let far = c.args.parted.now in
    record { may = (mark_far v.view v.number far.plan far.tag c.requires.parted.parted).may }

pub set_link-requires : goal.set_link-requires
set_link-requires c =
    let v = c.args.pass.now in
    let far = c.args.parted.now in
    let a = c.mark.new.self.view in
    record { may = (far-marked v.view a v.number far.plan far.tag c.requires.parted.parted c.requires.passed c.mark.ensures.view).may }

pub raise_far_tag-requires : goal.raise_far_tag-requires
raise_far_tag-requires c =
    let v = c.args.pass.now in
    let p = c.args.parted.now.plan in
    let tag = c.args.parted.now.tag in
    let a = c.mark.new.self.view in
    let b = c.set_link.new.self in
    let next = far-marked v.view a v.number p tag c.requires.parted.parted c.requires.passed c.mark.ensures.view in
    let same = c.set_link.ensures.same.number ∙ c.mark.ensures.same.number in
    record {
      null = λ zero. subst (λ n. RaisesFarTag b.view n p tag) (sym same) (subst (λ (u : View). RaisesFarTag u v.number p tag) (sym c.set_link.ensures.view) (next.null zero));
      some = λ ne. subst (λ n. IsGivingBack true b.view n (kept_locks p)) (sym same) (subst (λ (u : View). IsGivingBack true u v.number (kept_locks p)) (sym c.set_link.ensures.view) (next.some ne));
    }

pub unlock-requires : goal.unlock-requires
unlock-requires c =
    let r = c.raise_far_tag.new.pass in
    let next = c.args.parted.now.plan.next in
    record { may = gives-may r.view r.number next.at.node (next.node ∷ []) c.raise_far_tag.ensures.released }

pub unlock-requires-2 : goal.unlock-requires-2
unlock-requires-2 c =
    let r = c.raise_far_tag.new.pass in
    let d = c.unlock.new.self.view in
    let next = c.args.parted.now.plan.next in
    record { may = gives-may d r.number next.node [] (gives-back r.view d r.number next.at.node (next.node ∷ []) c.raise_far_tag.ensures.released c.unlock.ensures.view) }

pub returns-clause-rest : goal.returns-clause-rest
returns-clause-rest c =
    let r = c.raise_far_tag.new.pass in
    let d = c.unlock.new.self.view in
    let e = c.unlock-2.new.self.view in
    let next = c.args.parted.now.plan.next in
    let one = gives-back r.view d r.number next.at.node (next.node ∷ []) c.raise_far_tag.ensures.released c.unlock.ensures.view in
    let announced = λ (u : View). u.announced in
    at-rest e r.number (gives-back d e r.number next.node [] one c.unlock-2.ensures.view)
    (ap announced c.unlock-2.ensures.view ∙ ap announced c.unlock.ensures.view ∙ c.raise_far_tag.ensures.announced ∙ ap announced c.set_link.ensures.view ∙ ap announced c.mark.ensures.view
    ∙ c.requires.parted.unannounced)

pub returns-clause-keeps : goal.returns-clause-keeps
returns-clause-keeps c =
    let next = c.args.parted.now.plan.next in
    let v = c.args.pass.now.view in
    let a = c.mark.new.self.view in
    let b = c.set_link.new.self.view in
    let r = c.raise_far_tag.new.pass.view in
    let d = c.unlock.new.self.view in
    let e = c.unlock-2.new.self.view in
    keeps_owned v a e (marked_keeps v a next.node c.mark.ensures.view)
    (keeps_owned a b e (link-keeps a b next.at.node next.at.side next.right c.set_link.ensures.view)
    (keeps_owned b r e c.raise_far_tag.ensures.keeps
    (keeps_owned r d e (unlock-keeps r d next.at.node c.unlock.ensures.view) (unlock-keeps d e next.node c.unlock-2.ensures.view))))
