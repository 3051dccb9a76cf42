use Rattle.std.proofs.Common.{◌+◌, arith, ap, ◌∙◌, sym, subst}
use Rattle.core_events.specs.PlainMoves.{tag_set}
use Rattle.core_laws.specs.PlainNeeds.{MaySetTag}
use Rattle.table_rule.specs.Homes.{Home, IsOf}
use Rattle.table_steps.specs.Passes.{Pass}
use Rattle.table_steps.proofs.LinkSteps.{set_tag_asks, set_tag_gives, set_tag_keeps, set_tag_room}
use Rattle.table_steps.proofs.pass.TablePass.set_tag.Goals as goal

pub store-requires-clause-asks : goal.store-requires-clause-asks
store-requires-clause-asks c =
    let s = c.self.inside.seat in
    let home : Home = c.table.inside.ruled in
    let of : IsOf home s = subst (λ (h : Home). IsOf h s) (sym c.table.view_is) c.self.invariant.1 in
    let may : MaySetTag s.view c.args.node c.args.side c.args.tag = subst (λ (p : Pass). MaySetTag p.view c.args.node c.args.side c.args.tag) (sym c.self.view_is) c.requires.may in
    set_tag_asks home s of c.facts.ensures c.args.node c.args.side c.args.tag may

pub invariant_of-self : goal.invariant_of-self
invariant_of-self c =
    let s = c.self.inside.seat in
    let home : Home = c.table.inside.ruled in
    let of : IsOf home s = subst (λ (h : Home). IsOf h s) (sym c.table.view_is) c.self.invariant.1 in
    let may : MaySetTag s.view c.args.node c.args.side c.args.tag = subst (λ (p : Pass). MaySetTag p.view c.args.node c.args.side c.args.tag) (sym c.self.view_is) c.requires.may in (
      set_tag_keeps home s of c.facts.ensures c.args.node c.args.side c.args.tag may c.store.new.seat.view c.store.ensures.event c.self.inside.kept c.self.invariant.0,
      subst (λ (h : Home). IsOf h c.store.new.seat) c.table.view_is c.store.ensures.of,
    )

pub returns-clause-view : goal.returns-clause-view
returns-clause-view c =
    let s = c.self.inside.seat in
    let home : Home = c.table.inside.ruled in
    let of : IsOf home s = subst (λ (h : Home). IsOf h s) (sym c.table.view_is) c.self.invariant.1 in
    let may : MaySetTag s.view c.args.node c.args.side c.args.tag = subst (λ (p : Pass). MaySetTag p.view c.args.node c.args.side c.args.tag) (sym c.self.view_is) c.requires.may in
    set_tag_gives home s of c.facts.ensures c.args.node c.args.side c.args.tag may c.store.new.seat.view c.store.ensures.event
    ∙ ap (λ (p : Pass). tag_set p.view c.args.node c.args.side (c.args.tag + 1)) c.self.view_is

pub overflow_add-tag : goal.overflow_add-tag
overflow_add-tag c =
    let s = c.self.inside.seat in
    let home : Home = c.table.inside.ruled in
    let of : IsOf home s = subst (λ (h : Home). IsOf h s) (sym c.table.view_is) c.self.invariant.1 in
    let may : MaySetTag s.view c.args.node c.args.side c.args.tag = subst (λ (p : Pass). MaySetTag p.view c.args.node c.args.side c.args.tag) (sym c.self.view_is) c.requires.may in
    omega (arith, set_tag_room home s of c.facts.ensures c.args.node c.args.side c.args.tag may)
