use Rattle.std.proofs.Common.{IfOk, subst}
use Rattle.bucket_terms.specs.PassView.{MadePut}
use Rattle.table_steps.specs.Passes.{Pass}
use Rattle.shared_index.specs.Shown.{shown}
use Rattle.shared_index.proofs.Made.{put_shown}
use Rattle.shared_index.proofs.key_pass.IndexPassKeyPass.put.Goals as goal

pub returns-clause-made : goal.returns-clause-made
returns-clause-made g c =
    let q = c.put-answer.new.pass in
    let closed = c.own_facts.ensures.closed c.put-answer.ensures.rest in
    subst (λ (p : Pass). IfOk c.put-answer.result (MadePut (shown p) (shown q) c.args.line c.args.key c.args.val)) c.self.view_is
    (put_shown c.self.inside.pass q c.put-answer.ensures.same c.own_facts.ensures.own closed c.put-answer.result c.args.line c.args.key c.args.val c.put-answer.ensures.made)
