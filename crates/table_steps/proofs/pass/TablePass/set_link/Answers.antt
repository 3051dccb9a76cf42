use Rattle.std.proofs.Common.{ap, ◌∙◌, sym, subst}
use Rattle.core_events.specs.PlainMoves.{link_set}
use Rattle.core_laws.specs.PlainNeeds.{MaySetLink}
use Rattle.table_rule.specs.Homes.{Home, IsOf}
use Rattle.table_steps.specs.Passes.{Pass}
use Rattle.table_steps.proofs.LinkSteps.{set_asks, set_gives, set_keeps}
use Rattle.table_steps.proofs.pass.TablePass.set_link.Goals as goal

pub store-requires-clause-asks : goal.store-requires-clause-asks
store-requires-clause-asks c =
    let s = c.self.inside.seat in
    let home : Home = c.table.inside.ruled in
    let of : IsOf home s = subst (λ (h : Home). IsOf h s) (sym c.table.view_is) c.self.invariant.1 in
    let may : MaySetLink s.view c.args.node c.args.side c.args.child = subst (λ (p : Pass). MaySetLink p.view c.args.node c.args.side c.args.child) (sym c.self.view_is) c.requires.may in
    set_asks home s of c.facts.ensures c.args.node c.args.side c.args.child may

pub invariant_of-self : goal.invariant_of-self
invariant_of-self c =
    let s = c.self.inside.seat in
    let home : Home = c.table.inside.ruled in
    let of : IsOf home s = subst (λ (h : Home). IsOf h s) (sym c.table.view_is) c.self.invariant.1 in
    let may : MaySetLink s.view c.args.node c.args.side c.args.child = subst (λ (p : Pass). MaySetLink p.view c.args.node c.args.side c.args.child) (sym c.self.view_is) c.requires.may in (
      set_keeps home s of c.facts.ensures c.args.node c.args.side c.args.child may c.store.new.seat.view c.store.ensures.event c.self.inside.kept c.self.invariant.0,
      subst (λ (h : Home). IsOf h c.store.new.seat) c.table.view_is c.store.ensures.of,
    )

pub returns-clause-view : goal.returns-clause-view
returns-clause-view c =
    let s = c.self.inside.seat in
    let home : Home = c.table.inside.ruled in
    let of : IsOf home s = subst (λ (h : Home). IsOf h s) (sym c.table.view_is) c.self.invariant.1 in
    let may : MaySetLink s.view c.args.node c.args.side c.args.child = subst (λ (p : Pass). MaySetLink p.view c.args.node c.args.side c.args.child) (sym c.self.view_is) c.requires.may in
    set_gives home s of c.facts.ensures c.args.node c.args.side c.args.child may c.store.new.seat.view c.store.ensures.event
    ∙ ap (λ (p : Pass). link_set p.view c.args.node c.args.side c.args.child) c.self.view_is
