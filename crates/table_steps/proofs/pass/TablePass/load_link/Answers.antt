use Rattle.std.proofs.Common.{◌≡◌, ◌≤◌, arith, ap, sym, subst}
use Rattle.index_words.specs.declared.layout.Layout.{Layout}
use Rattle.core_events.specs.PlainMoves.{link_loaded}
use Rattle.core_laws.specs.PlainNeeds.{MayReadLink}
use Rattle.table_rule.specs.Homes.{Home, IsOf}
use Rattle.table_steps.specs.Passes.{Pass}
use Rattle.table_steps.proofs.LinkSteps.{link_asks, link_gives, link_keeps, link_high}
use Rattle.table_steps.proofs.pass.TablePass.load_link.Goals as goal

pub load-word-requires-clause-asks : goal.load-word-requires-clause-asks
load-word-requires-clause-asks c =
    let s = c.self.inside.seat in
    let home : Home = c.table.inside.ruled in
    let of : IsOf home s = subst (λ (h : Home). IsOf h s) (sym c.table.view_is) c.self.invariant.1 in
    let may : MayReadLink s.view c.args.node c.args.side = subst (λ (p : Pass). MayReadLink p.view c.args.node c.args.side) (sym c.self.view_is) c.requires.may in
    link_asks home s of c.facts.ensures c.args.node c.args.side may

pub invariant_of-self : goal.invariant_of-self
invariant_of-self c =
    let s = c.self.inside.seat in
    let home : Home = c.table.inside.ruled in
    let of : IsOf home s = subst (λ (h : Home). IsOf h s) (sym c.table.view_is) c.self.invariant.1 in
    let may : MayReadLink s.view c.args.node c.args.side = subst (λ (p : Pass). MayReadLink p.view c.args.node c.args.side) (sym c.self.view_is) c.requires.may in (
      link_keeps home s of c.facts.ensures c.args.node c.args.side may c.load-word.new.seat.view c.load-word.result c.load-word.ensures.event c.self.inside.kept c.self.invariant.0,
      subst (λ (h : Home). IsOf h c.load-word.new.seat) c.table.view_is c.load-word.ensures.of,
    )

pub returns-clause-view : goal.returns-clause-view
returns-clause-view c =
    let s = c.self.inside.seat in
    let home : Home = c.table.inside.ruled in
    let of : IsOf home s = subst (λ (h : Home). IsOf h s) (sym c.table.view_is) c.self.invariant.1 in
    let may : MayReadLink s.view c.args.node c.args.side = subst (λ (p : Pass). MayReadLink p.view c.args.node c.args.side) (sym c.self.view_is) c.requires.may in
    subst (λ (p : Pass). c.load-word.new.seat.view ≡ link_loaded p.view c.args.node c.args.side c.load-word.result) c.self.view_is
    (link_gives home s of c.facts.ensures c.args.node c.args.side may c.load-word.new.seat.view c.load-word.result c.load-word.ensures.event)

pub returns-clause-there : goal.returns-clause-there
returns-clause-there c =
    let s = c.self.inside.seat in
    let home : Home = c.table.inside.ruled in
    let of : IsOf home s = subst (λ (h : Home). IsOf h s) (sym c.table.view_is) c.self.invariant.1 in
    let may : MayReadLink s.view c.args.node c.args.side = subst (λ (p : Pass). MayReadLink p.view c.args.node c.args.side) (sym c.self.view_is) c.requires.may in
    subst (λ (p : Pass). c.load-word.result ≤ p.view.layout.nodes) c.self.view_is
    (subst (λ (y : Layout). c.load-word.result ≤ y.nodes) (sym of.layout) (link_high home s of c.facts.ensures c.args.node c.args.side may c.load-word.new.seat.view c.load-word.result c.load-word.ensures.event))

pub prove-unreachable-requires : goal.prove-unreachable-requires
prove-unreachable-requires c =
    let s = c.self.inside.seat in
    let home : Home = c.table.inside.ruled in
    let of : IsOf home s = subst (λ (h : Home). IsOf h s) (sym c.table.view_is) c.self.invariant.1 in
    let may : MayReadLink s.view c.args.node c.args.side = subst (λ (p : Pass). MayReadLink p.view c.args.node c.args.side) (sym c.self.view_is) c.requires.may in
    let high : c.load-word.result ≤ home.layout.nodes = link_high home s of c.facts.ensures c.args.node c.args.side may c.load-word.new.seat.view c.load-word.result c.load-word.ensures.event in
    omega (arith, c.if-prove.true, high, ap (λ (y : Layout). y.nodes) c.layout-nodes.ensures)
