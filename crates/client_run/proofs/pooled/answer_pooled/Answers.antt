use Rattle.std.proofs.Common.{rules, ◌≡◌, false}
use Rattle.std.specs.Option.{option_copied}
use Rattle.std.proofs.lemmas.Result.{IfOk-weaker}
use Rattle.bucket_terms.specs.LegalRun.{is_update}
use Rattle.request_lines.specs.Session.{request_line}
use Rattle.client_run.proofs.TradedAnswers.{answers_alone, answers_traded, later_traded}
use Rattle.client_run.proofs.pooled.answer_pooled.Goals as goal

pub returns-then-not-is_update-clause-answers : goal.returns-then-not-is_update-clause-answers
returns-then-not-is_update-clause-answers g c =
    let view = g.P.KeyPass.view in
    let other : is_update c.args.turn.now.asked.now.request ≡ false = search rules in
    IfOk-weaker c.answer.result _ _
    (λ placed answers. answers_alone c.args.turn.now.known.now c.args.own (view c.args.pass.now) (view c.answer.new.pass) (g.P.PoolPass.free_nodes c.answer.new.pass) (option_copied c.args.turn.now.last)
    (record { asked = request_line c.args.turn.now.asked.now; placed = placed }) c.args.seat.now.book c.requires.knows c.requires.closed other answers) c.answer.ensures.answers

pub answer-requires-2-clause-later : goal.answer-requires-2-clause-later
answer-requires-2-clause-later g c =
    let view = g.P.KeyPass.view in
    later_traded (view c.args.pass.now) (view c.top_up.new.pass) c.top_up.ensures.topped_up.traded c.requires.knows c.args.turn.now.asked.now.line c.requires.later

pub returns-clause-answers : goal.returns-clause-answers
returns-clause-answers g c =
    let view = g.P.KeyPass.view in
    answers_traded c.args.turn.now.known.now c.args.own (view c.args.pass.now) (view c.top_up.new.pass) (view c.answer-2.new.pass) (view c.hand_over.new.pass) (g.P.PoolPass.free_nodes c.hand_over.new.pass)
    (option_copied c.args.turn.now.last) (record { asked = request_line c.args.turn.now.asked.now; placed = c.in_ok-placed.placed }) c.args.seat.now.book c.top_up.new.seat.book c.hand_over.new.seat.book
    c.requires.knows c.top_up.ensures.topped_up c.in_ok-placed.ensures.answers c.hand_over.ensures.handed_over
