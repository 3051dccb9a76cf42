use Rattle.std.proofs.Common.{IfOk, subst}
use Rattle.bucket_terms.specs.PassView.{AnsweredRemoval}
use Rattle.table_steps.specs.Passes.{Pass}
use Rattle.shared_index.specs.Shown.{shown}
use Rattle.shared_index.proofs.Made.{removal_shown}
use Rattle.shared_index.proofs.key_pass.IndexPassKeyPass.remove.Goals as goal

pub returns-clause-made : goal.returns-clause-made
returns-clause-made g c =
    let q = c.remove-answer.new.pass in
    let closed = c.own_facts.ensures.closed c.remove-answer.ensures.rest in
    subst (λ (p : Pass). IfOk c.remove-answer.result (AnsweredRemoval (shown p) (shown q) c.args.line c.args.key)) c.self.view_is
    (removal_shown c.self.inside.pass q c.remove-answer.ensures.same c.own_facts.ensures.own closed c.remove-answer.result c.args.line c.args.key c.remove-answer.ensures.answered)
