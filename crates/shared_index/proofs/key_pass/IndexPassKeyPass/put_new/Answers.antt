use Rattle.std.proofs.Common.{IfOk, subst}
use Rattle.bucket_terms.specs.PassView.{AnsweredPutNew}
use Rattle.table_steps.specs.Passes.{Pass}
use Rattle.shared_index.specs.Shown.{shown}
use Rattle.shared_index.proofs.Made.{new_shown}
use Rattle.shared_index.proofs.key_pass.IndexPassKeyPass.put_new.Goals as goal

pub returns-clause-answered : goal.returns-clause-answered
returns-clause-answered g c =
    let q = c.put_new-answer.new.pass in
    let closed = c.own_facts.ensures.closed c.put_new-answer.ensures.rest in
    subst (λ (p : Pass). IfOk c.put_new-answer.result (AnsweredPutNew (shown p) (shown q) c.args.line c.args.key c.args.val)) c.self.view_is
    (new_shown c.self.inside.pass q c.put_new-answer.ensures.same c.own_facts.ensures.own closed c.put_new-answer.result c.args.line c.args.key c.args.val c.put_new-answer.ensures.answered)
