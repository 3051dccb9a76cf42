use Rattle.std.proofs.Common.{Result, Ok, Err, IfOk, IfSome, Option, Some, None, subst}
use Rattle.bucket_terms.specs.declared.reply.Reply.{Reply}
use Rattle.answer_text.specs.InRange.{IsReplyOf}
use Rattle.request_lines.specs.Session.{request_line}
use Rattle.text_laws.specs.WrongLine.{setting}
use Rattle.replay_check.specs.Turns.{IsFound}
use Rattle.replay_check.proofs.LineReplies.{shown_elsewhere, none_fit, told_is}
use Rattle.replay_check.proofs.line_reply.line_reply.Goals as goal

both : {T E : Type 0} (r : Result T E) (P Q R : T → Type 0) → ((x : T) → P x → Q x → R x) → IfOk r P → IfOk r Q → IfOk r R
both (Ok x) P Q R f p q = f x p q
both (Err e) P Q R f p q = tt

pub returns-then-is_elsewhere-clause-looked : goal.returns-then-is_elsewhere-clause-looked
returns-then-is_elsewhere-clause-looked c = λ checked updates earlier dir records here due short knows.
    let other = c.is_elsewhere.ensures.elsewhere c.if-is_elsewhere.true in
    shown_elsewhere checked updates c.args.turn.now.number earlier (request_line c.args.turn.now.asked.now) c.args.text.now short c.place_in-at.result c.place_in-at.ensures
    c.args.turn.now.client.now c.args.replay.now.at due here other.0 other.1

pub told-requires : goal.told-requires
told-requires c = subst (λ (o : Option Reply). IfSome o (IsReplyOf c.args.dir.now c.args.records.now)) c.in-Some.is (c.in_ok-reply.ensures.recorded c.args.records.now c.requires.recorded)

pub returns-in-Some-clause-looked : goal.returns-in-Some-clause-looked
returns-in-Some-clause-looked c = both c.told.result _ _ _ (λ found some none. λ checked updates earlier dir records here due short knows.
    let asked = request_line c.args.turn.now.asked.now in
    let s = setting checked updates c.args.turn.now.number in
    let at = c.place_in-at.result in
    let fit : IsFound s earlier asked at (Some c.in-Some.reply) =
    subst (IsFound s earlier asked at) c.in-Some.is (c.in_ok-reply.ensures.found s earlier dir knows) in
    told_is checked updates c.args.turn.now.number earlier asked c.args.text.now short at c.place_in-at.ensures knows.rising c.in-Some.reply fit
    c.args.dir.now c.args.records.now dir records found some none)
    c.told.ensures.some c.told.ensures.none

pub returns-in-None-clause-looked : goal.returns-in-None-clause-looked
returns-in-None-clause-looked c = λ checked updates earlier dir records here due short knows.
    let asked = request_line c.args.turn.now.asked.now in
    let s = setting checked updates c.args.turn.now.number in
    let at = c.place_in-at.result in
    let none : IsFound s earlier asked at None = subst (IsFound s earlier asked at) c.in-None.is (c.in_ok-reply.ensures.found s earlier dir knows) in
    none_fit checked updates c.args.turn.now.number earlier asked c.args.text.now short at c.place_in-at.ensures none
