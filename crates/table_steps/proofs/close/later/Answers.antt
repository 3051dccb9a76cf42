use Rattle.std.proofs.Common.{◌≤◌, arith}
use Rattle.key_map.specs.declared.update.Change.TheVariants.{Put}
use Rattle.table_steps.specs.declared.own_updates.OwnUpdate.{OwnUpdate}
use Rattle.table_steps.proofs.Closed.{later_step, every_below, every_here}
use Rattle.table_steps.proofs.close.later.Goals as goal
use Rattle.table_steps.proofs.close.later.Goals.{then-own-last, else-own-last}

abbrev unset : OwnUpdate
unset = record { at = 0; update = record { client = 0; line = 0; key = 0; change = Put 0 } }

pub loop-own-preserved : goal.loop-own-preserved
loop-own-preserved c =
    elim c.if-own-last.branch [
      | then-own-last w ↦
          later_step c.args.updates.now c.loop-own.own-index unset c.args.last c.loop-own.last c.if-own-last.last (omega (arith, c.loop-own-test.true))
          (omega (arith, w.last-is, w.if-own-last.true)) (omega (arith, w.last-is)) (λ limit low here. omega (arith, w.last-is, low, here)) c.loop-own.invariant
      | else-own-last w ↦
          later_step c.args.updates.now c.loop-own.own-index unset c.args.last c.loop-own.last c.if-own-last.last (omega (arith, c.loop-own-test.true))
          (omega (arith, w.last-is)) (omega (arith, w.last-is, w.if-own-last.false)) (λ limit low here. omega (arith, w.last-is, low)) c.loop-own.invariant
    ]

pub returns-clause-above : goal.returns-clause-above
returns-clause-above c =
    every_below (λ (u : OwnUpdate). u.at ≤ c.loop-own.last) c.args.updates.now c.loop-own.own-index (omega (arith, c.loop-own-test.false)) c.loop-own.invariant.1.0

pub returns-clause-least : goal.returns-clause-least
returns-clause-least c limit low all = c.loop-own.invariant.1.1 limit low (every_here (λ (u : OwnUpdate). u.at ≤ limit) c.args.updates.now all)
