use Rattle.std.proofs.Common.{◌≤◌, ◌∙◌, sym, subst}
use Rattle.update_try.specs.Pruning.{HasLookedAt}
use Rattle.update_try.proofs.PruneWalks.{looked_other, looked_update, may_look, skips_own, update_same}
use Rattle.update_try.proofs.pruning.look_at_other.Goals as goal

pub look_ann-word-requires : goal.look_ann-word-requires
look_ann-word-requires c = record { may = may_look c.args.pass.now.view c.args.other (sym c.is_own.ensures.known ∙ c.if-is_own.false) c.requires.there c.requires.reads }

pub returns-clause-looks : goal.returns-clause-looks
returns-clause-looks c =
    let v = c.args.pass.now.view in
    let w = c.look_ann-word.new.self.view in
    let word = c.look_ann-word.result in
    subst (λ low. HasLookedAt v c.args.other c.args.number low w) (sym c.lower.ensures.smaller)
    (looked_other v w c.args.other word c.args.number c.look_ann-word.ensures.view c.requires.least (subst (λ low. low ≤ c.args.number) c.lower.ensures.smaller c.lower.ensures.low))

pub returns-clause-update : goal.returns-clause-update
returns-clause-update c =
    let w = c.look_ann-word.new.self.view in
    looked_update c.args.pass.now.view w c.args.other c.look_ann-word.result c.args.number c.look_ann-word.ensures.view

pub returns-then-is_own-clause-looks : goal.returns-then-is_own-clause-looks
returns-then-is_own-clause-looks c =
    skips_own c.args.pass.now.view c.args.other c.args.number (sym c.is_own.ensures.known ∙ c.if-is_own.true) c.requires.least

pub returns-then-is_own-clause-update : goal.returns-then-is_own-clause-update
returns-then-is_own-clause-update c = update_same c.args.pass.now.view
