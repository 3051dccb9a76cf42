use Rattle.std.proofs.Common.{ap, ◌∙◌}
use Rattle.client_run.proofs.Replies.{head_answers, closed_view}
use Rattle.client_run.proofs.updates.head.Goals as goal

pub returns-clause-answers : goal.returns-clause-answers
returns-clause-answers g c = λ last.
    let view = g.P.KeyPass.view in
    rw (c.answer_at.ensures, c.head_reply.ensures, c.client-client.ensures.number) (head_answers c.args.turn.now.known.now (view c.args.pass.now) (view c.begin-at.new.self) (view c.end.new.self) last c.args.turn.now.asked.now.line c.rank_of-key.result c.begin-at.result c.args.name.now c.value_of-found.result
    c.client-client.ensures.mine (rw c.directory.ensures at c.rank_of-key.ensures) c.begin-at.ensures.began (c.end.ensures.closed ∙ ap closed_view c.value_of-found.ensures.same) (c.value_of-found.ensures.value c.begin-at.result c.begin-at.ensures.began.opened))
