use Rattle.std.proofs.Common.{◌∙◌}
use Rattle.tree_update.proofs.CallSteps.{stays_more}
use Rattle.bundle_reads.proofs.ReadMoves.{same_more}
use Rattle.tree_update.proofs.waits.wait_for_more.Goals as goal

pub looks-init : goal.looks-init
looks-init c = (c.look_around-first.ensures.rest, c.look_around-first.ensures.stays, c.look_around-first.ensures.same, c.look_around-first.ensures.waits)

pub looks-preserved : goal.looks-preserved
looks-preserved c =
    let e = c.look_around-next.ensures in
    let w = c.look_around-next.new.pass in (
      e.rest,
      stays_more c.args.pass.now.view c.looks.pass.view w.view c.looks.invariant.1 e.stays,
      same_more c.args.pass.now c.looks.pass w c.looks.invariant.2 e.same,
      e.waits ∙ c.looks.invariant.3,
    )

pub returns-then-least-first-clause-waits : goal.returns-then-least-first-clause-waits
returns-then-least-first-clause-waits c = c.looks.invariant.3

pub returns-clause-waits : goal.returns-clause-waits
returns-clause-waits c = c.looks.invariant.3
