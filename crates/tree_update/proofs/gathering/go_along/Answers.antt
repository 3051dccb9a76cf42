use Rattle.bundle_reads.proofs.ReadMoves.{same_pass, same_more}
use Rattle.tree_update.proofs.GatherSteps.{gathers_more, gathers_nothing}
use Rattle.tree_update.proofs.gathering.go_along.Goals as goal

pub keys-init : goal.keys-init
keys-init c = (c.requires.rest, gathers_nothing c.args.pass.now.view, same_pass c.args.pass.now)

pub keys-preserved : goal.keys-preserved
keys-preserved c =
    let p = c.args.pass.now in
    let q = c.keys.pass in
    let w = c.cut_at.new.pass in
    let e = c.cut_at.ensures in
    (e.rest, gathers_more p.view q.view w.view c.keys.invariant.1 e.gathers, same_more p q w c.keys.invariant.2 e.same)

pub returns-in_default-clause-gathers : goal.returns-in_default-clause-gathers
returns-in_default-clause-gathers c =
    gathers_more c.args.pass.now.view c.keys.pass.view c.cut_at.new.pass.view c.keys.invariant.1 c.cut_at.ensures.gathers
