use Rattle.std.proofs.Common.{None, Some, subst}
use Rattle.std.proofs.lemmas.Result.{IfOk-weaker}
use Rattle.bucket_terms.specs.declared.list_query.ListQuery.{ListQuery}
use Rattle.bucket_terms.specs.declared.request.Request.TheVariants.{List as ListRequest}
use Rattle.client_run.specs.Starts.{IsStartOf}
use Rattle.client_run.specs.declared.pages.Start.{Start}
use Rattle.client_run.proofs.Listings.{list_answers, bad_answers, no_point}
use Rattle.client_run.proofs.pages.list_request.Goals as goal

pub returns-in_ok-query-in-First-clause-answers : goal.returns-in_ok-query-in-First-clause-answers
returns-in_ok-query-in-First-clause-answers g c =
    let view = g.P.KeyPass.view in
    let start = subst (λ (s : Start). IsStartOf c.args.query.now s) c.in-First.is (subst (λ (q : ListQuery). IsStartOf q c.in_ok-start_of.field-0) c.get.ensures c.in_ok-start_of.ensures) in
    IfOk-weaker c.listed.result _ _
    (λ placed is last. list_answers c.args.turn.now.known.now c.args.query.now c.in_ok-query-in-First.query None c.args.turn.now.asked.now.line (view c.args.pass.now) (view c.listed.new.pass) last placed c.in_ok-query-in-First.ensures start is)
    c.listed.ensures.answer

pub returns-in_ok-query-in-Behind-clause-answers : goal.returns-in_ok-query-in-Behind-clause-answers
returns-in_ok-query-in-Behind-clause-answers g c =
    let view = g.P.KeyPass.view in
    let start = subst (λ (s : Start). IsStartOf c.args.query.now s) c.in-Behind.is (subst (λ (q : ListQuery). IsStartOf q c.in_ok-start_of.field-0) c.get.ensures c.in_ok-start_of.ensures) in
    IfOk-weaker c.listed-in-Behind.result _ _
    (λ placed is last. list_answers c.args.turn.now.known.now c.args.query.now c.in_ok-query-in-Behind.query (Some c.in-Behind.point) c.args.turn.now.asked.now.line (view c.args.pass.now) (view c.listed-in-Behind.new.pass) last placed c.in_ok-query-in-Behind.ensures start is)
    c.listed-in-Behind.ensures.answer

pub returns-in-Bad-clause-answers : goal.returns-in-Bad-clause-answers
returns-in-Bad-clause-answers g c = λ last.
    let start = subst (λ (s : Start). IsStartOf c.args.query.now s) c.in-Bad.is (subst (λ (q : ListQuery). IsStartOf q c.in_ok-start_of.field-0) c.get.ensures c.in_ok-start_of.ensures) in
    rw (c.refused.ensures, c.client.ensures.number) (bad_answers c.args.turn.now.known.now (g.P.KeyPass.view c.args.pass.now) last c.args.turn.now.asked.now.line (ListRequest c.args.query.now) c.client.ensures.mine c.requires.closed (λ slots. no_point c.args.query.now start))
