use Rattle.std.proofs.Common.{◌∙◌, ap, refl}
use Rattle.index_words.specs.declared.view.View.{View}
use Rattle.tree_update.proofs.CallSteps.{stays_nothing, stays_more, settle_stays}
use Rattle.bundle_reads.proofs.ReadMoves.{same_pass, same_more}
use Rattle.tree_update.proofs.waits.wait_for_slots.Goals as goal

pub tries-init : goal.tries-init
tries-init g c = (c.requires.rest, stays_nothing c.args.pass.now.view, same_pass c.args.pass.now, refl)

pub tries-preserved : goal.tries-preserved
tries-preserved g c =
    let e = c.try_settle.ensures in
    let w = c.try_settle.new.pass in (
      e.rest,
      stays_more c.args.pass.now.view c.tries.pass.view w.view c.tries.invariant.1 (settle_stays c.tries.pass.view w.view e.keeps e.slots),
      same_more c.args.pass.now c.tries.pass w c.tries.invariant.2 e.same,
      ap (λ (u : View). u.counts.waits) e.keeps ∙ c.tries.invariant.3,
    )

pub returns-in-Some-plan_slots-clause-waits : goal.returns-in-Some-plan_slots-clause-waits
returns-in-Some-plan_slots-clause-waits g c = c.tries.invariant.3
