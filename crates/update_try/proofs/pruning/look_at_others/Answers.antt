use Rattle.std.proofs.Common.{◌≡◌, ◌∙◌, ap, subst, refl, arith}
use Rattle.std.specs.Prelude.{is_some}
use Rattle.index_words.specs.declared.layout.Layout.{Layout}
use Rattle.core_grace.specs.Progress.{PassedOthers}
use Rattle.core_grace.proofs.Progress.{passed_all}
use Rattle.update_try.proofs.PruneWalks.{looked_next, place_more, place_same, update_more, update_same}
use Rattle.update_try.proofs.Steps.{same_more, same_pass}
use Rattle.update_try.proofs.pruning.look_at_others.Goals as goal

pub others-init : goal.others-init
others-init c =
    let p = c.args.pass.now in
    (refl, c.requires.least, omega arith, λ n low other. absurd (omega (arith, low)), update_same p.view, place_same p.view, same_pass p)

pub look_at_other-number-requires : goal.look_at_other-number-requires
look_at_other-number-requires c =
    let passes = ap (λ (z : Layout). z.passes) c.others.invariant.5.layout in
    record {
      reads = ap is_some c.others.invariant.0 ∙ c.requires.reads;
      least = c.others.invariant.1;
      there = omega (arith, c.others-test.true, c.passes-passes.ensures, passes);
    }

pub others-preserved : goal.others-preserved
others-preserved c =
    let p = c.args.pass.now in
    let v = c.others.pass.view in
    let q = c.look_at_other-number.new.pass in
    let e = c.look_at_other-number.ensures in (
      e.looks.section ∙ c.others.invariant.0,
      e.looks.least,
      omega (arith, e.looks.lower, c.others.invariant.2),
      looked_next v q.view c.others.other c.others.number c.look_at_other-number.result e.looks c.others.invariant.3,
      update_more p.view v q.view c.others.invariant.4 e.update,
      place_more p.view v q.view c.others.invariant.5 e.looks.place,
      same_more p c.others.pass q c.others.invariant.6 e.same,
    )

pub returns-clause-least : goal.returns-clause-least
returns-clause-least c =
    let w = c.others.pass.view in
    let all : c.others.other ≡ w.layout.passes
    = omega (arith, c.others-test.false, c.others.auto.other-end, c.passes-passes.ensures, ap (λ (z : Layout). z.passes) c.others.invariant.5.layout) in
    record {
      reads = ap is_some c.others.invariant.0 ∙ c.requires.reads;
      least = c.others.invariant.1;
      looked = λ told. passed_all w.layout.passes w.number w.reading.looked (subst (λ n. PassedOthers n w.number w.reading.looked) all c.others.invariant.3);
    }
