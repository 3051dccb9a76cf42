use Rattle.std.proofs.lemmas.Result.{IfOk-weaker}
use Rattle.tree_update.proofs.CallAnswers.{removal_answered}
use Rattle.tree_update.proofs.calls.remove.Goals as goal

pub returns-clause-answered : goal.returns-clause-answered
returns-clause-answered g c =
    let p = c.args.pass.now in
    let w = c.update.new.pass.view in
    IfOk-weaker c.update.result _ _ (λ done answer. (removal_answered p w c.args.line c.args.key done answer).0) c.update.ensures.answered

pub returns-clause-place : goal.returns-clause-place
returns-clause-place g c =
    let p = c.args.pass.now in
    let w = c.update.new.pass.view in
    IfOk-weaker c.update.result _ _ (λ done answer. (removal_answered p w c.args.line c.args.key done answer).1) c.update.ensures.answered
