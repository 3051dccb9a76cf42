use Rattle.std.proofs.Common.{Some}
use Rattle.bucket_terms.specs.declared.request.Request.TheVariants.{Delete}
use Rattle.bucket_terms.specs.declared.reply.Reply.TheVariants.{Deleted}
use Rattle.client_run.proofs.GatheredAnswers.{gathered_answers, not_made_answers, not_spent, later_gathered}
use Rattle.client_run.proofs.Replies.{removal_answers}
use Rattle.client_run.proofs.updates.delete.Goals as goal

pub returns-in-Ok-clause-answers : goal.returns-in-Ok-clause-answers
returns-in-Ok-clause-answers g c = λ last.
    let view = g.P.KeyPass.view in
    let old = view c.args.pass.now in
    let mid = view c.prepare-target.new.pass in
    let new = view c.remove.new.self in
    let knows = c.prepare-target.ensures.mine in
    let gathered = c.prepare-target.ensures.gathered in
    rw (c.answer_at.ensures, c.prepare-target.ensures.number)
    (gathered_answers c.args.turn.now.known.now old mid new last c.args.turn.now.asked.now.line (Delete c.args.name.now) (Some c.in-Ok.done.at) Deleted knows gathered
    (removal_answers c.args.turn.now.known.now mid new last c.args.turn.now.asked.now.line c.prepare-target.result.key c.args.name.now c.in-Ok.done (gathered.own knows) c.prepare-target.ensures.rank
    (later_gathered old mid c.args.turn.now.asked.now.line knows gathered c.requires.later) c.in-Ok.ensures.made))

pub not_made-requires : goal.not_made-requires
not_made-requires g c =
    let view = g.P.KeyPass.view in
    record { calls = not_spent (view c.args.pass.now) (view c.prepare-target.new.pass) c.in-Err.error c.prepare-target.ensures.gathered c.requires.left c.in-Err.ensures.spent }

pub returns-in-Err-clause-answers : goal.returns-in-Err-clause-answers
returns-in-Err-clause-answers g c = λ last.
    let view = g.P.KeyPass.view in
    rw (c.not_made.ensures.answer, c.prepare-target.ensures.number)
    (not_made_answers c.args.turn.now.known.now (view c.args.pass.now) (view c.prepare-target.new.pass) (view c.remove.new.self) last c.args.turn.now.asked.now.line
    (Delete c.args.name.now) c.in-Err.error c.prepare-target.ensures.mine c.prepare-target.ensures.gathered c.in-Err.ensures.unchanged c.not_made.ensures.cause
    c.in-Err.ensures.no_slot (λ short slots enough. enough short))
