use Rattle.std.proofs.Common.{◌∙◌, ap, sym, subst}
use Rattle.index_words.specs.declared.view.reading.Reading.{Reading}
use Rattle.core_updates.specs.declared.plan.Plan.{Plan}
use Rattle.plan_laws.specs.Prunes.{HasNumbered}
use Rattle.plan_laws.proofs.Prunes.{keeps_pruned, owned_is_pruned}
use Rattle.update_try.specs.Pruning.{ArePrunedOrLeft, walk_limit}
use Rattle.update_try.proofs.FarSteps.{far_plan, near_plan}
use Rattle.update_try.proofs.carry.end_update.Goals as goal

pub prune_all-requires-clause-least : goal.prune_all-requires-clause-least
prune_all-requires-clause-least c = ap (λ (r : Reading). r.least) c.finalise_all.ensures.reading ∙ c.requires.least

pub end_at_once-requires : goal.end_at_once-requires
end_at_once-requires c =
    record { numbered = c.prune_all.ensures.numbered; pruned = c.prune_all.ensures.pruned; near = near_plan c.args.plan.now (sym c.far_join.ensures ∙ c.in_default.is) }

pub part-requires : goal.part-requires
part-requires c =
    let q = c.prune_all.new.pass in
    let is = far_plan c.args.plan.now c.in-Some.join (sym c.far_join.ensures ∙ c.in-Some.is) in
    record {
      numbered = subst (λ (x : Plan). HasNumbered q.view q.number x c.args.slots.now) is.plan_is c.prune_all.ensures.numbered;
      pruned = subst (λ (x : Plan). ArePrunedOrLeft q.view x (walk_limit q.view)) is.plan_is c.prune_all.ensures.pruned;
      far = is.far;
      node = c.requires.node;
    }

-- the numbers and the cuts come before the end
pub returns-clause-keeps : goal.returns-clause-keeps
returns-clause-keeps c =
    let p = c.args.pass.now.view in
    let f = c.finalise_all.new.pass.view in
    let q = c.prune_all.new.pass.view in
    let w = c.part.new.pass.view in
    keeps_pruned p f w (owned_is_pruned p f c.finalise_all.ensures.keeps) (keeps_pruned f q w c.prune_all.ensures.keeps (owned_is_pruned q w c.part.ensures.keeps))

pub returns-in_default-clause-keeps : goal.returns-in_default-clause-keeps
returns-in_default-clause-keeps c =
    let p = c.args.pass.now.view in
    let f = c.finalise_all.new.pass.view in
    let q = c.prune_all.new.pass.view in
    let w = c.end_at_once.new.pass.view in
    keeps_pruned p f w (owned_is_pruned p f c.finalise_all.ensures.keeps) (keeps_pruned f q w c.prune_all.ensures.keeps (owned_is_pruned q w c.end_at_once.ensures.keeps))
