use Rattle.std.proofs.Common.{◌∙◌, ap, length, subst, ◌≡◌, sym, Some}
use Rattle.index_words.specs.declared.view.history.SeenHistory.{SeenHistory}
use Rattle.index_words.specs.declared.view.reading.Reading.{Reading}
use Rattle.key_map.specs.declared.update.Change.{Change}
use Rattle.core_updates.specs.Plans.{change_of as plan_change, fronts_of, key_of as plan_key}
use Rattle.core_updates.specs.Ready.{update_of}
use Rattle.plan_laws.specs.Answers.{was_there as had_key}
use Rattle.plan_laws.specs.Raises.{update_by}
use Rattle.plan_laws.proofs.Frames.{keeps_pass}
use Rattle.table_rule.proofs.Lists.{some_same}
use Rattle.table_steps.proofs.Places.{raised_later, raised_before}
use Rattle.table_steps.specs.Raises.{IsRaisedSince}
use Rattle.update_search.specs.Aims.{change_of, key_of}
use Rattle.update_try.specs.Carried.{HasCarriedOut}
use Rattle.update_try.proofs.Done.{entries_filled, has_done}
use Rattle.update_try.proofs.Steps.{same_more}
use Rattle.update_try.proofs.carry.carry_out.Goals as goal

-- the number at which the pass reads is its least one
pub end_update-parted-requires-clause-least : goal.end_update-parted-requires-clause-least
end_update-parted-requires-clause-least c =
    let u = c.args.pass.now.view in
    let v = c.validate.new.pass.view in
    let p = c.make_ready.new.pass.view in
    let making = c.make_ready.ensures.prepared.prepared.making in
    let section = (keeps_pass u v p c.in-Ok.ensures.keeps.pass c.make_ready.ensures.keeps).section ∙ c.requires.reads in
    let same : making.number ≡ c.args.number = some_same making.number c.args.number (sym making.section ∙ section) in
    ap (λ (r : Reading). r.least) c.raise_plan-at.ensures.reading ∙ making.least ∙ ap Some same

pub returns-clause-done : goal.returns-clause-done
returns-clause-done c =
    let u = c.args.pass.now.view in
    let v = c.validate.new.pass.view in
    let p = c.make_ready.new.pass in
    let q = c.raise_plan-at.new.pass in
    let w = c.end_update-parted.new.pass.view in
    let plan = c.in-Ok.plan in
    let slots = c.args.slots.now in
    let at = c.raise_plan-at.result in
    let line = c.args.line in
    let aim = c.args.aim.now in
    let tried = c.in-Ok.ensures.keeps in
    let is = c.in-Ok.ensures.plan in
    let number = c.make_ready.ensures.same.number ∙ c.validate.ensures.same.number in
    let owned = entries_filled u v p.view (length (fronts_of plan slots)) tried.free tried.pass.batch tried.pass.retired c.make_ready.ensures.entries in
    let done = has_done u w p q line plan slots at (keeps_pass u v p.view tried.pass c.make_ready.ensures.keeps) owned c.raise_plan-at.ensures.answers c.end_update-parted.ensures.keeps in
    subst (λ b. HasCarriedOut u w c.args.pass.now.number line (key_of aim) (change_of aim) (record { at = at; was = b })) (sym c.was_there-was.ensures)
    (subst (λ n. HasCarriedOut u w n line (key_of aim) (change_of aim) (record { at = at; was = had_key plan })) number
    (subst (λ (x : Change). HasCarriedOut u w p.number line (key_of aim) x (record { at = at; was = had_key plan })) is.change_is
    (subst (λ k. HasCarriedOut u w p.number line k (plan_change plan) (record { at = at; was = had_key plan })) is.key_is done)))

pub returns-clause-raise : goal.returns-clause-raise
returns-clause-raise c =
    let a = c.args.pass.now in
    let v = c.validate.new.pass in
    let p = c.make_ready.new.pass in
    let q = c.raise_plan-at.new.pass in
    let w = c.end_update-parted.new.pass.view in
    let plan = c.in-Ok.plan in
    let at = c.raise_plan-at.result in
    let aim = c.args.aim.now in
    let is = c.in-Ok.ensures.plan in
    let same = same_more a v p c.validate.ensures.same c.make_ready.ensures.same in
    let mine = ap (λ (h : SeenHistory). h.mine) (c.make_ready.ensures.keeps.history ∙ c.in-Ok.ensures.keeps.pass.history) in
    let u = update_by a.number c.args.line plan in
    let raised = raised_before a u at q.view w (ap (λ (h : SeenHistory). h.mine) c.end_update-parted.ensures.keeps.history)
    (raised_later a p u at q.view same mine (subst (λ n. IsRaisedSince p (update_by n c.args.line plan) at q.view) same.number c.raise_plan-at.ensures.raise)) in
    subst (λ (x : Change). IsRaisedSince a (update_of a.number c.args.line (key_of aim) x) at w) is.change_is
    (subst (λ k. IsRaisedSince a (update_of a.number c.args.line k (plan_change plan)) at w) is.key_is raised)
