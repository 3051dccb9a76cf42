use Rattle.std.proofs.Common.{refl}
use Rattle.std.proofs.lemmas.Result.{IfOk-weaker}
use Rattle.tree_update.proofs.CallAnswers.{put_answered}
use Rattle.tree_update.proofs.calls.put.Goals as goal

pub returns-clause-made : goal.returns-clause-made
returns-clause-made g c =
    let p = c.args.pass.now in
    let w = c.update.new.pass.view in
    IfOk-weaker c.update.result _ _
    (λ done answer. record { made = (put_answered p w c.args.line c.args.key done c.args.val answer).made; fixes = (c.update.ensures.unlooked refl refl).fixes })
    c.update.ensures.answered

pub returns-clause-place : goal.returns-clause-place
returns-clause-place g c =
    let p = c.args.pass.now in
    let w = c.update.new.pass.view in
    IfOk-weaker c.update.result _ _ (λ done answer. (put_answered p w c.args.line c.args.key done c.args.val answer).raise) c.update.ensures.answered

pub returns-clause-waits : goal.returns-clause-waits
returns-clause-waits g c = (c.update.ensures.unlooked refl refl).waits
