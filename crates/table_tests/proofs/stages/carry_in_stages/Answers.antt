use Rattle.std.proofs.Common.{◌≡◌, ◌∙◌, ap, refl, sym, subst, true, Some}
use Rattle.index_words.specs.declared.view.reading.Reading.{Reading}
use Rattle.key_map.specs.declared.update.Change.{Change}
use Rattle.core_updates.specs.declared.plan.Plan.{Plan}
use Rattle.core_updates.specs.declared.plan.Plan.TheVariants.{Grow, Replace, Lift, Join}
use Rattle.core_updates.specs.Plans.{change_of}
use Rattle.plan_laws.specs.PlainLinks.{SetsAtOnce}
use Rattle.plan_laws.proofs.Frames.{keeps_pass}
use Rattle.table_rule.proofs.Lists.{some_same}
use Rattle.update_search.specs.Aims.{is_put}
use Rattle.table_tests.proofs.stages.carry_in_stages.Goals as goal

-- a put sets its link in one section
near_by : (plan : Plan) → is_put (change_of plan) ≡ true → SetsAtOnce plan
near_by (Grow p) put = refl
near_by (Replace p) put = refl
near_by (Lift p) put = cc
near_by (Join p) put = cc

pub end_in_stages-behind-requires-clause-near : goal.end_in_stages-behind-requires-clause-near
end_in_stages-behind-requires-clause-near g c =
    near_by c.in-Ok.plan (subst (λ (x : Change). is_put x ≡ true) (sym c.in-Ok.ensures.plan.change_is) c.requires.put)

-- the number at which the pass reads is its least one
pub end_in_stages-behind-requires-clause-least : goal.end_in_stages-behind-requires-clause-least
end_in_stages-behind-requires-clause-least g c =
    let u = c.args.pass.now.view in
    let v = c.validate.new.pass.view in
    let p = c.make_ready.new.pass.view in
    let making = c.make_ready.ensures.prepared.prepared.making in
    let section = (keeps_pass u v p c.in-Ok.ensures.keeps.pass c.make_ready.ensures.keeps).section ∙ c.requires.reads in
    let same : making.number ≡ c.args.number = some_same making.number c.args.number (sym making.section ∙ section) in
    ap (λ (r : Reading). r.least) c.raise_plan.ensures.reading ∙ making.least ∙ ap Some same
