use Rattle.std.proofs.Common.{◌≡◌, ◌∙◌, sym}
use Rattle.std.proofs.lemmas.Bool.{eqb-false}
use Rattle.plan_laws.proofs.Parting.{look_parted}
use Rattle.tree_update.proofs.Ends.{look_keeps, look_shown, look_waits}
use Rattle.tree_update.proofs.ending.look_at_other.Goals as goal

-- the other pass may be looked at
pub look_waiting-word-requires : goal.look_waiting-word-requires
look_waiting-word-requires c =
    let p = c.args.pass.now in
    let far = c.args.parted.now in
    let apart : ¬ (p.number ≡ c.args.other) = eqb-false p.number c.args.other (sym c.is_own.ensures.own ∙ c.if-is_own.false) in
    let looks = look_parted p.view p.number far.plan far.tag c.args.other c.requires.parted.parted apart c.requires.there in
    record { may = looks.may; locked = looks.locked }

pub returns-clause-parted : goal.returns-clause-parted
returns-clause-parted c =
    let p = c.args.pass.now in
    let w = c.look_waiting-word.new.self in
    let apart : ¬ (p.number ≡ c.args.other) = eqb-false p.number c.args.other (sym c.is_own.ensures.own ∙ c.if-is_own.false) in
    look_waits p.view w.view c.args.other c.look_waiting-word.result c.look_waiting-word.ensures.view p.number w.number c.args.parted.now c.look_waiting-word.ensures.same.number
    c.requires.parted apart c.requires.there

pub returns-clause-looks : goal.returns-clause-looks
returns-clause-looks c =
    look_shown c.args.pass.now.view c.look_waiting-word.new.self.view c.args.other c.look_waiting-word.result c.look_waiting-word.ensures.view c.args.waits.now c.look_at.new.self
    c.look_at.ensures c.requires.looks

pub returns-clause-keeps : goal.returns-clause-keeps
returns-clause-keeps c =
    look_keeps c.args.pass.now.view c.look_waiting-word.new.self.view c.args.other c.look_waiting-word.result c.look_waiting-word.ensures.view
