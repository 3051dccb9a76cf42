use Rattle.std.proofs.Common.{◌∙◌, sym, ap, not, subst}
use Rattle.pass_slots.proofs.Looks.{pass_now, note_stays, note_first}
use Rattle.core_grace.specs.Batches.{looked_at}
use Rattle.pass_slots.specs.Owned.{Shown, KeepsLooks}
use Rattle.pass_slots.proofs.waits.Waits.look_at.Goals as goal

pub returns-then-may_pass : goal.returns-then-may_pass
returns-then-may_pass c g keeps =
    let s : Shown = record { first = c.self.inside.first; passed = c.self.inside.passed } in
    pass_now s c.args.self.now c.self.view_is c.args.pass c.args.word c.requires c.if-self-at.false g keeps (sym c.may_pass.ensures ∙ c.if-may_pass.true)

pub returns-then-is_none : goal.returns-then-is_none
returns-then-is_none c g keeps =
    let s : Shown = record { first = c.self.inside.first; passed = c.self.inside.passed } in
    note_first s c.args.self.now c.self.view_is c.args.pass c.args.word c.requires c.if-self-at.false g keeps (sym c.may_pass.ensures ∙ c.if-may_pass.false) (c.is_none.ensures ∙ ap not c.if-is_none.true)

pub returns-else-is_none : goal.returns-else-is_none
returns-else-is_none c g keeps =
    let s : Shown = record { first = c.self.inside.first; passed = c.self.inside.passed } in
    subst (KeepsLooks (looked_at g c.args.pass c.args.word)) (sym c.self.view_is)
    (note_stays s c.args.self.now c.self.view_is c.args.pass c.args.word c.requires c.if-self-at.false g keeps (sym c.may_pass.ensures ∙ c.if-may_pass.false) (c.is_none.ensures ∙ ap not c.if-is_none.false))
