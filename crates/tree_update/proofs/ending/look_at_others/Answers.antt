use Rattle.std.proofs.Common.{arith, ap}
use Rattle.index_words.specs.declared.layout.Layout.{Layout}
use Rattle.bundle_reads.proofs.ReadMoves.{same_more}
use Rattle.plan_laws.proofs.Frames.{keeps_owned}
use Rattle.update_try.proofs.Steps.{owned_same, same_pass}
use Rattle.tree_update.proofs.ending.look_at_others.Goals as goal

pub others-init : goal.others-init
others-init c = let p = c.args.pass.now in (c.requires.parted, c.requires.looks, owned_same p.view, same_pass p)

pub look_at_other-requires : goal.look_at_other-requires
look_at_other-requires c =
    record {
      parted = c.others.invariant.0;
      there = omega (arith, c.others-test.true, c.passes-passes.ensures, ap (λ (z : Layout). z.passes) c.others.invariant.3.layout);
      looks = c.others.invariant.1;
    }

pub others-preserved : goal.others-preserved
others-preserved c =
    let p = c.args.pass.now in
    let q = c.others.pass in
    let w = c.look_at_other.new.pass in
    let e = c.look_at_other.ensures in
    (e.parted, e.looks, keeps_owned p.view q.view w.view c.others.invariant.2 e.keeps, same_more p q w c.others.invariant.3 e.same)
