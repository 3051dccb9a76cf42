use Rattle.std.proofs.Common.{sym, subst}
use Rattle.std.specs.Option.{option_copied}
use Rattle.std.proofs.lemmas.Result.{IfOk-weaker}
use Rattle.bucket_terms.specs.declared.request.Request.{Request}
use Rattle.client_run.specs.ClientRun.{Answers}
use Rattle.client_run.proofs.run.answer.Goals as goal

pub returns-in-Put-clause-answers : goal.returns-in-Put-clause-answers
returns-in-Put-clause-answers g c =
    subst (λ (r : Request). Answers c.args.turn.now.known.now (g.P.KeyPass.view c.args.pass.now) (g.P.KeyPass.view c.put.new.pass) (option_copied c.args.turn.now.last)
    (record { asked = record { line = c.args.turn.now.asked.now.line; request = r }; placed = c.put.result })) (sym c.in-Put.is) (c.put.ensures.answers (option_copied c.args.turn.now.last))

pub returns-in-PutNew-clause-answers : goal.returns-in-PutNew-clause-answers
returns-in-PutNew-clause-answers g c =
    subst (λ (r : Request). Answers c.args.turn.now.known.now (g.P.KeyPass.view c.args.pass.now) (g.P.KeyPass.view c.put_new.new.pass) (option_copied c.args.turn.now.last)
    (record { asked = record { line = c.args.turn.now.asked.now.line; request = r }; placed = c.put_new.result })) (sym c.in-PutNew.is) (c.put_new.ensures.answers (option_copied c.args.turn.now.last))

pub returns-in-Delete-clause-answers : goal.returns-in-Delete-clause-answers
returns-in-Delete-clause-answers g c =
    subst (λ (r : Request). Answers c.args.turn.now.known.now (g.P.KeyPass.view c.args.pass.now) (g.P.KeyPass.view c.delete.new.pass) (option_copied c.args.turn.now.last)
    (record { asked = record { line = c.args.turn.now.asked.now.line; request = r }; placed = c.delete.result })) (sym c.in-Delete.is) (c.delete.ensures.answers (option_copied c.args.turn.now.last))

pub returns-in-Head-clause-answers : goal.returns-in-Head-clause-answers
returns-in-Head-clause-answers g c =
    subst (λ (r : Request). Answers c.args.turn.now.known.now (g.P.KeyPass.view c.args.pass.now) (g.P.KeyPass.view c.head.new.pass) (option_copied c.args.turn.now.last)
    (record { asked = record { line = c.args.turn.now.asked.now.line; request = r }; placed = c.head.result })) (sym c.in-Head.is) (c.head.ensures.answers (option_copied c.args.turn.now.last))

pub returns-in-List-clause-answers : goal.returns-in-List-clause-answers
returns-in-List-clause-answers g c =
    IfOk-weaker c.list_request.result _ _
    (λ placed answers. subst (λ (r : Request). Answers c.args.turn.now.known.now (g.P.KeyPass.view c.args.pass.now) (g.P.KeyPass.view c.list_request.new.pass) (option_copied c.args.turn.now.last)
    (record { asked = record { line = c.args.turn.now.asked.now.line; request = r }; placed = placed })) (sym c.in-List.is) (answers (option_copied c.args.turn.now.last)))
    c.list_request.ensures.answers

pub returns-in-ListV1-clause-answers : goal.returns-in-ListV1-clause-answers
returns-in-ListV1-clause-answers g c =
    IfOk-weaker c.v1_request.result _ _
    (λ placed answers. subst (λ (r : Request). Answers c.args.turn.now.known.now (g.P.KeyPass.view c.args.pass.now) (g.P.KeyPass.view c.v1_request.new.pass) (option_copied c.args.turn.now.last)
    (record { asked = record { line = c.args.turn.now.asked.now.line; request = r }; placed = placed })) (sym c.in-ListV1.is) (answers (option_copied c.args.turn.now.last)))
    c.v1_request.ensures.answers
