use Rattle.bundle_reads.proofs.ReadMoves.{same_pass, same_more}
use Rattle.tree_update.proofs.GatherSteps.{gathers_more, gathers_nothing, stays_gathers}
use Rattle.tree_update.proofs.gathering.gather_needed.Goals as goal

pub stretches-init : goal.stretches-init
stretches-init c = (c.requires.rest, gathers_nothing c.args.pass.now.view, same_pass c.args.pass.now)

pub stretches-preserved : goal.stretches-preserved
stretches-preserved c =
    let p = c.args.pass.now in
    let q = c.stretches.pass in
    let x = c.go_along-key.new.pass in
    let w = c.wait_for_more-waited.new.pass in
    let gone = c.go_along-key.ensures in
    let e = c.wait_for_more-waited.ensures in (
      e.rest,
      gathers_more p.view x.view w.view (gathers_more p.view q.view x.view c.stretches.invariant.1 gone.gathers) (stays_gathers x.view w.view e.stays e.waits),
      same_more p x w (same_more p q x c.stretches.invariant.2 gone.same) e.same,
    )
