use Rattle.std.proofs.Common.{IfOk, subst}
use Rattle.bucket_terms.specs.PassView.{MadePut}
use Rattle.table_steps.specs.Passes.{Pass}
use Rattle.tree_update.specs.Trying.{IfDone}
use Rattle.shared_index.specs.Shown.{shown}
use Rattle.shared_index.proofs.Made.{try_shown}
use Rattle.shared_index.proofs.pass.IndexPass.try_put.Goals as goal

pub returns-clause-made : goal.returns-clause-made
returns-clause-made c =
    let q = c.try_put-answer.new.pass in
    let closed = c.own_facts.ensures.closed c.try_put-answer.ensures.rest in
    subst (λ (p : Pass). IfOk c.try_put-answer.result (λ tried. IfDone tried (MadePut (shown p) (shown q) c.args.line c.args.key c.args.val))) c.self.view_is
    (try_shown c.self.inside.pass q c.try_put-answer.ensures.same c.own_facts.ensures.own closed c.try_put-answer.result c.args.line c.args.key c.args.val c.try_put-answer.ensures.made)
