use Rattle.std.proofs.Common.{Some, subst, false}
use Rattle.key_map.specs.declared.pass.New.{New}
use Rattle.bucket_terms.specs.PassView.{AnsweredPutNew}
use Rattle.bucket_terms.specs.declared.request.Request.TheVariants.{PutNew}
use Rattle.bucket_terms.specs.declared.reply.Reply.TheVariants.{Put as PutReply, Exists}
use Rattle.client_run.proofs.GatheredAnswers.{gathered_answers, not_made_answers, not_spent, later_gathered}
use Rattle.client_run.proofs.Replies.{inserted_answers, kept_answers}
use Rattle.client_run.proofs.updates.put_new.Goals as goal

pub returns-in-Ok-Made-clause-answers : goal.returns-in-Ok-Made-clause-answers
returns-in-Ok-Made-clause-answers g c = λ last.
    let view = g.P.KeyPass.view in
    let old = view c.args.pass.now in
    let mid = view c.prepare-target.new.pass in
    let new = view c.put_new.new.self in
    let knows = c.prepare-target.ensures.mine in
    let gathered = c.prepare-target.ensures.gathered in
    let made = subst (λ (n : New). AnsweredPutNew mid new c.args.turn.now.asked.now.line c.prepare-target.result.key c.args.val n) c.in-Ok-Made.field-0-is c.in-Ok-Made.ensures.answered in
    rw (c.answer_at.ensures, c.prepare-target.ensures.number)
    (gathered_answers c.args.turn.now.known.now old mid new last c.args.turn.now.asked.now.line (PutNew c.args.name.now c.args.val) (Some c.in-Ok-Made.at) (PutReply false) knows gathered
    (inserted_answers c.args.turn.now.known.now mid new last c.args.turn.now.asked.now.line c.prepare-target.result.key c.args.val c.in-Ok-Made.at c.args.name.now
    (gathered.own knows) c.prepare-target.ensures.rank made))

pub returns-in-Ok-Kept-clause-answers : goal.returns-in-Ok-Kept-clause-answers
returns-in-Ok-Kept-clause-answers g c = λ last.
    let view = g.P.KeyPass.view in
    let old = view c.args.pass.now in
    let mid = view c.prepare-target.new.pass in
    let new = view c.put_new.new.self in
    let knows = c.prepare-target.ensures.mine in
    let gathered = c.prepare-target.ensures.gathered in
    let kept = subst (λ (n : New). AnsweredPutNew mid new c.args.turn.now.asked.now.line c.prepare-target.result.key c.args.val n) c.in-Ok-Kept.field-0-is c.in-Ok-Kept.ensures.answered in
    rw (c.answer_at-in-Ok-Kept.ensures, c.prepare-target.ensures.number)
    (gathered_answers c.args.turn.now.known.now old mid new last c.args.turn.now.asked.now.line (PutNew c.args.name.now c.args.val) (Some c.in-Ok-Kept.at) Exists knows gathered
    (kept_answers c.args.turn.now.known.now mid new last c.args.turn.now.asked.now.line c.prepare-target.result.key c.args.val c.in-Ok-Kept.at c.args.name.now
    (gathered.own knows) c.prepare-target.ensures.rank (later_gathered old mid c.args.turn.now.asked.now.line knows gathered c.requires.later) kept))

pub not_made-requires : goal.not_made-requires
not_made-requires g c =
    let view = g.P.KeyPass.view in
    record { calls = not_spent (view c.args.pass.now) (view c.prepare-target.new.pass) c.in-Err.error c.prepare-target.ensures.gathered c.requires.left c.in-Err.ensures.spent }

pub returns-in-Err-clause-answers : goal.returns-in-Err-clause-answers
returns-in-Err-clause-answers g c = λ last.
    let view = g.P.KeyPass.view in
    rw (c.not_made.ensures.answer, c.prepare-target.ensures.number)
    (not_made_answers c.args.turn.now.known.now (view c.args.pass.now) (view c.prepare-target.new.pass) (view c.put_new.new.self) last c.args.turn.now.asked.now.line
    (PutNew c.args.name.now c.args.val) c.in-Err.error c.prepare-target.ensures.mine c.prepare-target.ensures.gathered c.in-Err.ensures.unchanged c.not_made.ensures.cause
    c.in-Err.ensures.no_slot (λ short slots enough. enough short))
