use Rattle.std.proofs.Common.{Some}
use Rattle.bucket_terms.specs.declared.request.Request.TheVariants.{Put}
use Rattle.bucket_terms.specs.declared.reply.Reply.TheVariants.{Put as PutReply}
use Rattle.client_run.proofs.GatheredAnswers.{gathered_answers, not_made_answers, not_spent}
use Rattle.client_run.proofs.Replies.{put_answers}
use Rattle.client_run.proofs.updates.put.Goals as goal

pub returns-in-Ok-clause-answers : goal.returns-in-Ok-clause-answers
returns-in-Ok-clause-answers g c = λ last.
    let view = g.P.KeyPass.view in
    let old = view c.args.pass.now in
    let mid = view c.prepare-target.new.pass in
    let new = view c.put.new.self in
    let knows = c.prepare-target.ensures.mine in
    let gathered = c.prepare-target.ensures.gathered in
    rw (c.answer_at.ensures, c.prepare-target.ensures.number)
    (gathered_answers c.args.turn.now.known.now old mid new last c.args.turn.now.asked.now.line (Put c.args.name.now c.args.val) (Some c.in-Ok.done.at) (PutReply c.in-Ok.done.was) knows gathered
    (put_answers c.args.turn.now.known.now mid new last c.args.turn.now.asked.now.line c.prepare-target.result.key c.args.val c.args.name.now c.in-Ok.done (gathered.own knows) c.prepare-target.ensures.rank c.in-Ok.ensures.made))

pub not_made-requires : goal.not_made-requires
not_made-requires g c =
    let view = g.P.KeyPass.view in
    record { calls = not_spent (view c.args.pass.now) (view c.prepare-target.new.pass) c.in-Err.error c.prepare-target.ensures.gathered c.requires.left c.in-Err.ensures.spent }

pub returns-in-Err-clause-answers : goal.returns-in-Err-clause-answers
returns-in-Err-clause-answers g c = λ last.
    let view = g.P.KeyPass.view in
    rw (c.not_made.ensures.answer, c.prepare-target.ensures.number)
    (not_made_answers c.args.turn.now.known.now (view c.args.pass.now) (view c.prepare-target.new.pass) (view c.put.new.self) last c.args.turn.now.asked.now.line
    (Put c.args.name.now c.args.val) c.in-Err.error c.prepare-target.ensures.mine c.prepare-target.ensures.gathered c.in-Err.ensures.unchanged c.not_made.ensures.cause
    c.in-Err.ensures.no_slot (λ short slots enough. enough short))
