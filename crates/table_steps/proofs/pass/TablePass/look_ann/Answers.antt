use Rattle.std.proofs.Common.{ap, ◌∙◌, sym, subst}
use Rattle.core_events.specs.Announcing.{ann_loaded}
use Rattle.core_laws.specs.ViewNeeds.{MayLookAnn}
use Rattle.table_rule.specs.Homes.{Home, IsOf}
use Rattle.table_steps.specs.Passes.{Pass}
use Rattle.table_steps.proofs.StampSteps.{look_ann_asks, look_ann_keeps, look_ann_view}
use Rattle.table_steps.proofs.pass.TablePass.look_ann.Goals as goal

pub load-requires-clause-asks : goal.load-requires-clause-asks
load-requires-clause-asks c =
    let s = c.self.inside.seat in
    let k = c.self.inside.kept in
    let home : Home = c.table.inside.ruled in
    let keeps = c.self.invariant.0 in
    let of : IsOf home s = subst (λ (h : Home). IsOf h s) (sym c.table.view_is) c.self.invariant.1 in
    let may : MayLookAnn s.view c.args.other = subst (λ (p : Pass). MayLookAnn p.view c.args.other) (sym c.self.view_is) c.requires.may in
    look_ann_asks home s k keeps of c.args.other may

pub invariant_of-self : goal.invariant_of-self
invariant_of-self c =
    let s = c.self.inside.seat in
    let k = c.self.inside.kept in
    let home : Home = c.table.inside.ruled in
    let keeps = c.self.invariant.0 in
    let of : IsOf home s = subst (λ (h : Home). IsOf h s) (sym c.table.view_is) c.self.invariant.1 in
    let may : MayLookAnn s.view c.args.other = subst (λ (p : Pass). MayLookAnn p.view c.args.other) (sym c.self.view_is) c.requires.may in (
      look_ann_keeps home s k keeps of c.args.other may c.load.new.seat.view c.load.result c.load.ensures.event,
      subst (λ (h : Home). IsOf h c.load.new.seat) c.table.view_is c.load.ensures.of,
    )

pub returns-clause-view : goal.returns-clause-view
returns-clause-view c =
    let s = c.self.inside.seat in
    let k = c.self.inside.kept in
    let home : Home = c.table.inside.ruled in
    let keeps = c.self.invariant.0 in
    let of : IsOf home s = subst (λ (h : Home). IsOf h s) (sym c.table.view_is) c.self.invariant.1 in
    let may : MayLookAnn s.view c.args.other = subst (λ (p : Pass). MayLookAnn p.view c.args.other) (sym c.self.view_is) c.requires.may in
    look_ann_view home s k keeps of c.args.other may c.load.new.seat.view c.load.result c.load.ensures.event
    ∙ ap (λ (p : Pass). ann_loaded p.view c.args.other c.load.result) c.self.view_is
