use Rattle.std.proofs.Common.{◌≡◌, ◌∙◌, true, ap, sym, Some}
use Rattle.index_words.specs.declared.view.reading.Reading.{Reading}
use Rattle.key_map.specs.declared.update.Change.{Change}
use Rattle.key_map.specs.declared.update.Change.TheVariants.{Put, Remove}
use Rattle.core_updates.specs.declared.plan.Plan.{Plan}
use Rattle.core_updates.specs.Plans.{change_of as plan_change}
use Rattle.plan_laws.specs.PlainLinks.{SetsAtOnce}
use Rattle.plan_laws.proofs.Frames.{keeps_pass}
use Rattle.table_rule.proofs.Lists.{some_same}
use Rattle.update_search.specs.Aims.{change_of, is_put}
use Rattle.update_try.proofs.FarSteps.{near_put}
use Rattle.index_runs.proofs.waits.carry_slowly.Goals as goal

-- the number at which the pass reads is its least one
pub end_update-requires-clause-least : goal.end_update-requires-clause-least
end_update-requires-clause-least c =
    let u = c.args.pass.now.view in
    let v = c.validate.new.pass.view in
    let p = c.make_ready.new.pass.view in
    let making = c.make_ready.ensures.prepared.prepared.making in
    let section = (keeps_pass u v p c.in-Ok.ensures.keeps.pass c.make_ready.ensures.keeps).section ∙ c.requires.reads in
    let same : making.number ≡ c.args.number = some_same making.number c.args.number (sym making.section ∙ section) in
    ap (λ (r : Reading). r.least) c.raise_plan.ensures.reading ∙ making.least ∙ ap Some same

-- a put sets all its links in one section
near_by : (plan : Plan) (change : Change) → plan_change plan ≡ change → is_put change ≡ true → SetsAtOnce plan
near_by plan (Put val) is put = near_put plan val is
near_by plan Remove is put = cc

pub end_update-requires-clause-near : goal.end_update-requires-clause-near
end_update-requires-clause-near c = near_by c.in-Ok.plan (change_of c.args.aim.now) c.in-Ok.ensures.plan.change_is c.requires.put
