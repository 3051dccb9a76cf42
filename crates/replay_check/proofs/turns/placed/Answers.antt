use Rattle.std.proofs.Common.{◌≡◌, ℕ, Result, Ok, Err, IfOk, IfSome, List, Option, Some, None, sym, ap, ◌∙◌, subst, arith}
use Rattle.std.specs.Option.{option_copied}
use Rattle.std.proofs.lemmas.Result.{IfOk-weaker}
use Rattle.std.proofs.lemmas.Option.{same_Some}
use Rattle.bucket_terms.specs.declared.reply.Reply.{Reply}
use Rattle.answer_text.specs.InRange.{IsReplyOf}
use Rattle.request_lines.specs.Session.{request_line}
use Rattle.replay_check.specs.Answering.{IsLook}
use Rattle.replay_check.specs.Turns.{KnowsTurn, IsFound}
use Rattle.replay_check.proofs.Recorded.{look_recorded, own_recorded}
use Rattle.replay_check.proofs.TurnLaws.{was_looked, was_made, was_not_made}
use Rattle.replay_check.proofs.turns.placed.Goals as goal
use Rattle.replay_check.proofs.turns.placed.Goals.{then-own-at+else-client-at, else-own-at}

pub returns-in-None-clause-found : goal.returns-in-None-clause-found
returns-in-None-clause-found c = IfOk-weaker c.of_look.result _ _ (λ found look. λ s earlier same knows.
    let asked = request_line c.args.turn.now.asked.now in
    let pairs = c.args.replay.now.map in
    let none : KnowsTurn s earlier asked c.args.replay.now None c.args.turn.now.client.now = subst (λ (o : Option ℕ). KnowsTurn s earlier asked c.args.replay.now o c.args.turn.now.client.now) c.in-None.is knows in
    let here : IsLook s.dir pairs (option_copied c.as_ref.result) c.args.turn.now.asked.now.request found =
    subst (λ (d : List (List ℕ)). IsLook d pairs (option_copied c.as_ref.result) c.args.turn.now.asked.now.request found) (sym same) look in
    let told : IsLook s.dir pairs c.args.turn.now.client.now.last c.args.turn.now.asked.now.request found =
    subst (λ (o : Option Reply). IsLook s.dir pairs o c.args.turn.now.asked.now.request found) c.as_ref.ensures.value here in
    was_looked s earlier asked c.args.replay.now c.args.turn.now.client.now c.args.at found none (omega (arith, c.if-at-client.false)) c.requires.here told)
    c.of_look.ensures.look

pub returns-in-Some-clause-found : goal.returns-in-Some-clause-found
returns-in-Some-clause-found c = λ s earlier same knows.
    let asked = request_line c.args.turn.now.asked.now in
    let place : c.in-Some.own ≡ c.args.at = omega (arith, c.if-own-at.true) in
    let own : KnowsTurn s earlier asked c.args.replay.now (Some c.args.at) c.args.turn.now.client.now =
    subst (λ (o : Option ℕ). KnowsTurn s earlier asked c.args.replay.now o c.args.turn.now.client.now) (c.in-Some.is ∙ ap (λ (n : ℕ). Some n) place) knows in
    subst (IsFound s earlier asked (Some c.args.at)) (sym c.of_update.ensures)
    (was_made s earlier asked c.args.replay.now c.args.turn.now.client.now c.args.at own (omega (arith, c.if-client-at.true)) c.requires.here)

pub returns-in-Some-2-clause-found : goal.returns-in-Some-2-clause-found
returns-in-Some-2-clause-found c = λ s earlier same knows.
    let asked = request_line c.args.turn.now.asked.now in
    let place = c.in-Some-2.field-0 in
    let own : KnowsTurn s earlier asked c.args.replay.now (Some place) c.args.turn.now.client.now =
    subst (λ (o : Option ℕ). KnowsTurn s earlier asked c.args.replay.now o c.args.turn.now.client.now) c.in-Some-2.is knows in
    let same_own : c.in-Some-2.field-0 ≡ c.in-Some.own = same_Some _ _ (sym c.in-Some-2.is ∙ c.in-Some.is) in
    was_not_made s earlier asked c.args.replay.now c.args.turn.now.client.now c.args.at place own (omega (arith, c.if-at-client.false))
    (λ same_place less. elim c.if-own-at.branch [
      | then-own-at+else-client-at w ↦ absurd (omega (arith, less, w.if-client-at.false))
      | else-own-at w ↦ absurd (omega (arith, same_place, same_own, w.if-own-at.false))
    ])

both : {T E : Type 0} (r : Result T E) (P Q R : T → Type 0) → ((x : T) → P x → Q x → R x) → IfOk r P → IfOk r Q → IfOk r R
both (Ok x) P Q R f p q = f x p q
both (Err e) P Q R f p q = tt

pub returns-in-None-clause-recorded : goal.returns-in-None-clause-recorded
returns-in-None-clause-recorded c = λ records below.
    both c.of_look.result _ _ _ (λ found look in_range. look_recorded c.args.dir.now records c.args.replay.now.map below (option_copied c.as_ref.result) c.args.turn.now.asked.now.request found look in_range)
    c.of_look.ensures.look c.of_look.ensures.in_range

pub returns-in-Some-clause-recorded : goal.returns-in-Some-clause-recorded
returns-in-Some-clause-recorded c = λ records below.
    subst (λ (o : Option Reply). IfSome o (IsReplyOf c.args.dir.now records)) (sym c.of_update.ensures) (own_recorded c.args.dir.now records c.args.turn.now.asked.now.request c.args.replay.now.was)
