use Rattle.std.proofs.Common.{◌∙◌, ap, arith}
use Rattle.std.specs.Prelude.{is_some}
use Rattle.index_words.specs.declared.layout.Layout.{Layout}
use Rattle.index_words.specs.declared.view.View.{View}
use Rattle.index_words.specs.declared.view.history.Counts.{Counts}
use Rattle.bundle_reads.proofs.ReadMoves.{same_more}
use Rattle.tree_update.proofs.CallSteps.{left_stays, opened_stays, stays_more}
use Rattle.tree_update.proofs.TryMade.{opened_counts, opened_inside, opened_section}
use Rattle.tree_update.proofs.waits.look_around.Goals as goal

pub others-init : goal.others-init
others-init c =
    let p = c.args.pass.now in
    let b = c.begin_search-own.new.pass in
    let at = c.begin_search-own.result in
    let e = c.begin_search-own.ensures in (
      (opened_inside p b.view at e.opened e.top).inside,
      ap is_some (opened_section p b.view at e.opened),
      opened_stays p b.view at e.opened,
      e.same,
      omega arith,
      ap (λ (n : Counts). n.waits) (opened_counts p b.view at e.opened),
    )

pub look_at_announced-least-requires : goal.look_at_announced-least-requires
look_at_announced-least-requires c =
    record {
      inside = c.others.invariant.0;
      reads = c.others.invariant.1;
      there =
          omega (arith, c.others-test.true, c.passes-passes.ensures, ap (λ (z : Layout). z.passes) c.others.invariant.3.layout, ap (λ (z : Layout). z.passes) c.begin_search-own.ensures.same.layout);
    }

pub others-preserved : goal.others-preserved
others-preserved c =
    let p = c.args.pass.now in
    let q = c.others.pass in
    let w = c.look_at_announced-least.new.pass in
    let e = c.look_at_announced-least.ensures in (
      e.inside,
      e.reads,
      stays_more p.view q.view w.view c.others.invariant.2 e.stays,
      same_more p q w c.others.invariant.3 e.same,
      omega (arith, e.lower, c.others.invariant.4),
      e.waits ∙ c.others.invariant.5,
    )

pub close_section-requires : goal.close_section-requires
close_section-requires c = record { inside = c.others.invariant.0 }

pub returns-clause-same : goal.returns-clause-same
returns-clause-same c = same_more c.args.pass.now c.others.pass c.close_section.new.self c.others.invariant.3 c.close_section.ensures.same

pub returns-clause-stays : goal.returns-clause-stays
returns-clause-stays c =
    let w = c.close_section.new.self.view in
    stays_more c.args.pass.now.view c.others.pass.view w c.others.invariant.2 (left_stays c.others.pass.view w c.close_section.ensures.view)

pub returns-clause-waits : goal.returns-clause-waits
returns-clause-waits c = ap (λ (u : View). u.counts.waits) c.close_section.ensures.view ∙ c.others.invariant.5
