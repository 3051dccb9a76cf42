use Rattle.std.proofs.Common.{◌≡◌, sym, subst}
use Rattle.key_map.specs.declared.pass.New.{New}
use Rattle.key_map.specs.declared.pass.PassError.TheVariants.{NoSlot, Spent}
use Rattle.tree_update.specs.Calls.{AnswersPutNew, IsPlaceOfNew, IsOutOfSlots}
use Rattle.tree_update.proofs.CallAnswers.{new_answered}
use Rattle.tree_update.proofs.CallsMade.{same_cause, no_cause}
use Rattle.tree_update.proofs.calls.put_new.Goals as goal

pub returns-in-Ok-clause-answered : goal.returns-in-Ok-clause-answered
returns-in-Ok-clause-answered g c =
    let p = c.args.pass.now in
    let w = c.update.new.pass.view in
    subst (λ (answer : New). AnswersPutNew p.view w p.number c.args.line c.args.key c.args.val answer) (sym c.new_answer.ensures)
    (new_answered p w c.args.line c.args.key c.in-Ok.done c.args.val c.in-Ok.ensures.answered).0

pub returns-in-Ok-clause-place : goal.returns-in-Ok-clause-place
returns-in-Ok-clause-place g c =
    let p = c.args.pass.now in
    let w = c.update.new.pass.view in
    subst (λ (answer : New). IsPlaceOfNew p c.args.line c.args.key c.args.val answer w) (sym c.new_answer.ensures)
    (new_answered p w c.args.line c.args.key c.in-Ok.done c.args.val c.in-Ok.ensures.answered).1

pub returns-in-Ok-clause-spent : goal.returns-in-Ok-clause-spent
returns-in-Ok-clause-spent g c = no_cause (c.args.pass.now.view.history.left ≡ 0) c.in-Ok.done _ Spent c.in-Ok.ensures.spent

pub returns-in-Ok-clause-no_slot : goal.returns-in-Ok-clause-no_slot
returns-in-Ok-clause-no_slot g c = no_cause (IsOutOfSlots c.args.pass.now.view) c.in-Ok.done _ NoSlot c.in-Ok.ensures.no_slot

pub returns-in-Err-clause-spent : goal.returns-in-Err-clause-spent
returns-in-Err-clause-spent g c = same_cause (c.args.pass.now.view.history.left ≡ 0) c.in-Err.error Spent c.in-Err.ensures.spent

pub returns-in-Err-clause-no_slot : goal.returns-in-Err-clause-no_slot
returns-in-Err-clause-no_slot g c = same_cause (IsOutOfSlots c.args.pass.now.view) c.in-Err.error NoSlot c.in-Err.ensures.no_slot
