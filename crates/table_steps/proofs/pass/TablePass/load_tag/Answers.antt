use Rattle.std.proofs.Common.{◌≡◌, sym, subst}
use Rattle.core_events.specs.PlainMoves.{tag_loaded}
use Rattle.core_laws.specs.PlainNeeds.{MayReadTag}
use Rattle.table_rule.specs.Homes.{Home, IsOf}
use Rattle.table_steps.specs.Passes.{Pass}
use Rattle.table_steps.proofs.LinkSteps.{tag_asks, tag_gives, tag_keeps}
use Rattle.table_steps.proofs.pass.TablePass.load_tag.Goals as goal

pub load-requires-clause-asks : goal.load-requires-clause-asks
load-requires-clause-asks c =
    let s = c.self.inside.seat in
    let home : Home = c.table.inside.ruled in
    let of : IsOf home s = subst (λ (h : Home). IsOf h s) (sym c.table.view_is) c.self.invariant.1 in
    let may : MayReadTag s.view c.args.node = subst (λ (p : Pass). MayReadTag p.view c.args.node) (sym c.self.view_is) c.requires.may in
    tag_asks home s of c.facts.ensures c.args.node c.args.side may

pub invariant_of-self : goal.invariant_of-self
invariant_of-self c =
    let s = c.self.inside.seat in
    let home : Home = c.table.inside.ruled in
    let of : IsOf home s = subst (λ (h : Home). IsOf h s) (sym c.table.view_is) c.self.invariant.1 in
    let may : MayReadTag s.view c.args.node = subst (λ (p : Pass). MayReadTag p.view c.args.node) (sym c.self.view_is) c.requires.may in (
      tag_keeps home s of c.facts.ensures c.args.node c.args.side may c.load.new.seat.view c.load.result c.load.ensures.event c.self.inside.kept c.self.invariant.0,
      subst (λ (h : Home). IsOf h c.load.new.seat) c.table.view_is c.load.ensures.of,
    )

pub returns-clause-view : goal.returns-clause-view
returns-clause-view c =
    let s = c.self.inside.seat in
    let home : Home = c.table.inside.ruled in
    let of : IsOf home s = subst (λ (h : Home). IsOf h s) (sym c.table.view_is) c.self.invariant.1 in
    let may : MayReadTag s.view c.args.node = subst (λ (p : Pass). MayReadTag p.view c.args.node) (sym c.self.view_is) c.requires.may in
    subst (λ (p : Pass). c.load.new.seat.view ≡ tag_loaded p.view c.args.node c.args.side c.load.result) c.self.view_is
    (tag_gives home s of c.facts.ensures c.args.node c.args.side may c.load.new.seat.view c.load.result c.load.ensures.event)
