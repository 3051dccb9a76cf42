use Rattle.std.proofs.Common.{ℕ, List, Option, None, sym, subst}
use Rattle.std.specs.Option.{option_copied}
use Rattle.std.proofs.lemmas.Result.{IfOk-weaker}
use Rattle.bucket_terms.specs.declared.reply.Reply.{Reply}
use Rattle.request_lines.specs.Session.{request_line}
use Rattle.replay_check.specs.Answering.{IsRefusal}
use Rattle.replay_check.specs.Turns.{KnowsTurn}
use Rattle.replay_check.proofs.TurnLaws.{was_refused}
use Rattle.replay_check.proofs.Recorded.{refusal_recorded}
use Rattle.replay_check.proofs.turns.unplaced.Goals as goal

pub returns-in-None-clause-found : goal.returns-in-None-clause-found
returns-in-None-clause-found c = IfOk-weaker c.refused.result _ _ (λ found refusal. λ s earlier replay same knows.
    let asked = request_line c.args.turn.now.asked.now in
    let client = c.args.turn.now.client.now in
    let none : KnowsTurn s earlier asked replay None client = subst (λ (o : Option ℕ). KnowsTurn s earlier asked replay o client) c.in-None.is knows in
    let here : IsRefusal s.dir client.slots client.used (option_copied c.as_ref.result) asked.request found =
    subst (λ (d : List (List ℕ)). IsRefusal d client.slots client.used (option_copied c.as_ref.result) asked.request found) (sym same) refusal in
    was_refused s earlier asked replay client found none (subst (λ (o : Option Reply). IsRefusal s.dir client.slots client.used o asked.request found) c.as_ref.ensures.value here))
    c.refused.ensures.refusal

pub returns-in-None-clause-recorded : goal.returns-in-None-clause-recorded
returns-in-None-clause-recorded c = λ records.
    IfOk-weaker c.refused.result _ _ (λ found refusal. refusal_recorded c.args.dir.now records c.args.turn.now.client.now.slots c.args.turn.now.client.now.used (option_copied c.as_ref.result) c.args.turn.now.asked.now.request found refusal)
    c.refused.ensures.refusal
