use Rattle.std.proofs.Common.{arith, ◌∙◌}
use Rattle.std.proofs.lemmas.List.{length-set}
use Rattle.table_steps.specs.Closes.{IsRightAt}
use Rattle.table_steps.specs.declared.own_updates.OwnUpdate.{OwnUpdate}
use Rattle.table_steps.proofs.Closed.{put_step, every_below}
use Rattle.table_steps.proofs.close.put_at_places.Goals as goal

pub loop-own-preserved : goal.loop-own-preserved
loop-own-preserved c = (
  length-set _ _ _ ∙ c.loop-own.invariant.0,
  λ all stands. put_step all c.args.updates.now c.args.history.now c.loop-own.history c.loop-own.own-index _ (omega (arith, c.loop-own-test.true)) stands c.requires.places c.loop-own.invariant.0 (c.loop-own.invariant.1 all stands),
)

pub returns-clause-right : goal.returns-clause-right
returns-clause-right c all stands = (c.loop-own.invariant.1 all stands).0

pub returns-clause-filled : goal.returns-clause-filled
returns-clause-filled c all stands =
    every_below (λ (u : OwnUpdate). IsRightAt all c.loop-own.history u.at) c.args.updates.now c.loop-own.own-index (omega (arith, c.loop-own-test.false)) (c.loop-own.invariant.1 all stands).1
