use Rattle.std.proofs.Common.{Option, Some, sym, ap, ◌∙◌, subst}
use Rattle.std.specs.Option.{option_copied, option_map}
use Rattle.std.proofs.lemmas.Result.{IfOk-weaker}
use Rattle.bucket_terms.specs.declared.list_query.ListQuery.{ListQuery}
use Rattle.bucket_terms.specs.declared.request.Request.TheVariants.{Next}
use Rattle.client_run.specs.declared.pages.Resumption.{Resumption}
use Rattle.client_run.specs.Listing.{ListedAs}
use Rattle.client_run.specs.Starts.{resumed}
use Rattle.client_run.proofs.Listings.{next_answers, bad_answers}
use Rattle.client_run.proofs.pages.next_request.Goals as goal

pub returns-in_ok-query-in-Some-clause-answers : goal.returns-in_ok-query-in-Some-clause-answers
returns-in_ok-query-in-Some-clause-answers g c =
    let view = g.P.KeyPass.view in
    IfOk-weaker c.listed.result _ _
    (λ placed is. next_answers c.args.turn.now.known.now (record { query = c.in-Some.next.query; point = c.in-Some.next.point }) c.args.turn.now.asked.now.line (view c.args.pass.now) (view c.listed.new.pass) (option_copied c.args.turn.now.last) placed (rw (← c.directory.ensures) (sym c.in_ok-next.ensures) ∙ ap (λ (o : Option Resumption). option_map resumed o) c.in-Some.is)
    (subst (λ (q : ListQuery). ListedAs c.args.turn.now.known.now q (Some c.in-Some.next.point) c.args.turn.now.asked.now.line (view c.args.pass.now) (view c.listed.new.pass) placed) c.in_ok-query-in-Some.ensures is))
    c.listed.ensures.answer

pub returns-in-None-clause-answers : goal.returns-in-None-clause-answers
returns-in-None-clause-answers g c =
    rw (c.refused.ensures, c.client.ensures.number) (bad_answers c.args.turn.now.known.now (g.P.KeyPass.view c.args.pass.now) (option_copied c.args.turn.now.last) c.args.turn.now.asked.now.line Next c.client.ensures.mine c.requires.closed (λ slots. rw (← c.directory.ensures) (sym c.in_ok-next.ensures) ∙ ap (λ (o : Option Resumption). option_map resumed o) c.in-None.is))
