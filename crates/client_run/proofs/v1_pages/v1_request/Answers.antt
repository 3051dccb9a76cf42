use Rattle.std.proofs.Common.{ap, ◌∙◌}
use Rattle.std.proofs.lemmas.Result.{IfOk-weaker}
use Rattle.bucket_terms.specs.Listing.{plain, marker_point}
use Rattle.client_run.proofs.Listings.{v1_answers, v1_in_range}
use Rattle.client_run.proofs.v1_pages.v1_request.Goals as goal

pub returns-clause-answers : goal.returns-clause-answers
returns-clause-answers g c =
    let view = g.P.KeyPass.view in
    IfOk-weaker c.listed_v1.result _ _
    (λ placed is last. v1_answers c.args.turn.now.known.now c.args.query.now c.in_ok-shown.shown c.in_ok-plain.plain c.in_ok-point.point c.args.turn.now.asked.now.line (view c.args.pass.now) (view c.listed_v1.new.pass) last placed c.in_ok-shown.ensures (c.in_ok-plain.ensures.query ∙ ap plain c.get-asked.ensures) (c.in_ok-point.ensures.point ∙ ap marker_point c.get-asked.ensures) is)
    c.listed_v1.ensures.answer

pub returns-clause-in_range : goal.returns-clause-in_range
returns-clause-in_range g c =
    let view = g.P.KeyPass.view in
    IfOk-weaker c.listed_v1.result _ _
    (λ placed is. v1_in_range c.args.turn.now.known.now c.in_ok-shown.shown c.in_ok-plain.plain c.in_ok-point.point c.args.turn.now.asked.now.line (view c.args.pass.now) (view c.listed_v1.new.pass) placed is)
    c.listed_v1.ensures.answer
