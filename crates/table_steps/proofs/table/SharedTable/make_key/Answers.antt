use Rattle.std.proofs.Common.{ap, ◌∙◌, sym, subst}
use Rattle.index_words.specs.declared.view.View.{View}
use Rattle.core_events.specs.Openings.{made_left, made_right, MayMake}
use Rattle.table_rule.specs.Homes.{Sat}
use Rattle.table_steps.specs.Kept.{Keeps}
use Rattle.core_kept.proofs.MadeSeats.{left_gives, right_is, may_make}
use Rattle.table_steps.proofs.Opened.{fresh_keeps, fresh_rest}
use Rattle.table_steps.specs.Passes.{AtRest}
use Rattle.table_steps.proofs.table.SharedTable.make_key.Goals as goal

pub make-made-requires-clause-may : goal.make-made-requires-clause-may
make-made-requires-clause-may c =
    let z = c.args.self.now.layout in
    let f = c.args.first in
    subst (λ (v : View). MayMake v f.number c.args.size.now) (sym c.requires.view) (may_make z f.number f.node f.entry c.args.size.now c.args.rest.now)

pub returns-clause-left : goal.returns-clause-left
returns-clause-left c =
    let z = c.args.self.now.layout in
    let f = c.args.first in
    ap (λ (s : Sat). s.view) c.make-made.ensures.left ∙ ap (λ (v : View). made_left v c.args.size.now) c.requires.view ∙ left_gives z f.number f.node f.entry c.args.size.now c.args.rest.now

pub returns-clause-view : goal.returns-clause-view
returns-clause-view c =
    let z = c.args.self.now.layout in
    let f = c.args.first in
    c.make-made.ensures.right ∙ ap (λ (v : View). made_right v f.number c.args.size.now) c.requires.view ∙ right_is z f.number f.node f.entry c.args.size.now c.args.rest.now

pub invariant_of-result : goal.invariant_of-result
invariant_of-result c =
    let z = c.args.self.now.layout in
    let f = c.args.first in
    let is = c.make-made.ensures.right ∙ ap (λ (v : View). made_right v f.number c.args.size.now) c.requires.view ∙ right_is z f.number f.node f.entry c.args.size.now c.args.rest.now in (
      subst (λ (v : View). Keeps v c.args.kept) (sym is) (fresh_keeps z f.number f.node f.entry c.args.size.now c.args.kept c.requires.fresh c.requires.there c.requires.few),
      subst AtRest (sym is) (fresh_rest z f.number f.node f.entry c.args.size.now),
    )
