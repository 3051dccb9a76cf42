use Rattle.std.proofs.Common.{◌≢◌, ◌∙◌, sym}
use Rattle.std.proofs.lemmas.Bool.{eqb-false}
use Rattle.tree_update.proofs.SettleLooks.{seen_again}
use Rattle.tree_update.proofs.settle.look_at.Goals as goal

pub returns-in-Inside-clause-seen : goal.returns-in-Inside-clause-seen
returns-in-Inside-clause-seen c =
    let p = c.args.pass.now in
    let q = c.look_once.new.pass in
    let other = c.args.other in
    let apart_from : other ≢ p.number = λ is. eqb-false p.number other (sym c.is_own.ensures.own ∙ c.if-is_own.false) (sym is) in
    let seen = c.in-Inside.ensures.seen in
    seen_again p q other c.in-Inside.field-0 c.look_once-in-Inside.result c.look_once-in-Inside.new.pass.view c.in-Inside.ensures.same c.requires.there apart_from seen.0 seen.1 c.look_once-in-Inside.ensures.seen
