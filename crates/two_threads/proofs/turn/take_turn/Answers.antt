use Rattle.two_threads.proofs.Turns.{took}
use Rattle.two_threads.proofs.turn.take_turn.Goals as goal

pub returns-clause-turn : goal.returns-clause-turn
returns-clause-turn g c =
    let view = g.P.KeyPass.view in
    let put = c.put-put.result in
    let looked_at = c.begin-looked_at.result in
    let found = c.value_of-found.result in
    let listed_at = c.in_ok-listed_at.listed_at in
    let page = c.in_ok-listed_at.page in
    took c.args.dir.now c.args.query.now c.args.task (view c.args.pass.now) (view c.put-put.new.self) (view c.begin-looked_at.new.self)
    (view c.value_of-found.new.self) (view c.end.new.self) (view c.list.new.pass) put looked_at found listed_at page
    c.put-put.ensures.made c.put-put.ensures.unchanged c.put-put.ensures.spent c.put-put.ensures.no_slot
    c.begin-looked_at.ensures.began c.value_of-found.ensures.same
    (c.value_of-found.ensures.value looked_at c.begin-looked_at.ensures.began.opened) c.end.ensures.closed
    c.in_ok-listed_at.ensures.listed c.list.ensures.kept
