use Rattle.std.proofs.Common.{◌≡◌, ◌≤◌, arith, ap, sym, subst}
use Rattle.index_words.specs.declared.layout.Layout.{Layout}
use Rattle.core_events.specs.LoadMoves.{next_loaded}
use Rattle.core_laws.specs.ViewNeeds.{MayReadNext}
use Rattle.table_rule.specs.Homes.{Home, IsOf}
use Rattle.table_steps.specs.Passes.{Pass}
use Rattle.table_steps.proofs.LoadSteps.{next_asks, next_gives, next_keeps, next_high}
use Rattle.table_steps.proofs.pass.TablePass.load_next.Goals as goal

pub load-word-requires-clause-asks : goal.load-word-requires-clause-asks
load-word-requires-clause-asks c =
    let s = c.self.inside.seat in
    let home : Home = c.table.inside.ruled in
    let of : IsOf home s = subst (λ (h : Home). IsOf h s) (sym c.table.view_is) c.self.invariant.1 in
    let may : MayReadNext s.view c.args.entry = subst (λ (p : Pass). MayReadNext p.view c.args.entry) (sym c.self.view_is) c.requires.may in
    next_asks home s of c.args.entry may

pub invariant_of-self : goal.invariant_of-self
invariant_of-self c =
    let s = c.self.inside.seat in
    let home : Home = c.table.inside.ruled in
    let of : IsOf home s = subst (λ (h : Home). IsOf h s) (sym c.table.view_is) c.self.invariant.1 in
    let may : MayReadNext s.view c.args.entry = subst (λ (p : Pass). MayReadNext p.view c.args.entry) (sym c.self.view_is) c.requires.may in
    let keeps = c.self.invariant.0 in (
      next_keeps home s of c.args.entry may c.load-word.new.seat.view c.load-word.result c.load-word.ensures.event c.self.inside.kept keeps,
      subst (λ (h : Home). IsOf h c.load-word.new.seat) c.table.view_is c.load-word.ensures.of,
    )

pub returns-clause-view : goal.returns-clause-view
returns-clause-view c =
    let s = c.self.inside.seat in
    let home : Home = c.table.inside.ruled in
    let of : IsOf home s = subst (λ (h : Home). IsOf h s) (sym c.table.view_is) c.self.invariant.1 in
    let may : MayReadNext s.view c.args.entry = subst (λ (p : Pass). MayReadNext p.view c.args.entry) (sym c.self.view_is) c.requires.may in
    subst (λ (p : Pass). c.load-word.new.seat.view ≡ next_loaded p.view c.args.entry c.load-word.result) c.self.view_is (next_gives home s of c.args.entry may c.load-word.new.seat.view c.load-word.result c.load-word.ensures.event)

pub returns-clause-there : goal.returns-clause-there
returns-clause-there c =
    let s = c.self.inside.seat in
    let home : Home = c.table.inside.ruled in
    let of : IsOf home s = subst (λ (h : Home). IsOf h s) (sym c.table.view_is) c.self.invariant.1 in
    let may : MayReadNext s.view c.args.entry = subst (λ (p : Pass). MayReadNext p.view c.args.entry) (sym c.self.view_is) c.requires.may in
    subst (λ (p : Pass). c.load-word.result ≤ p.view.layout.entries) c.self.view_is (subst (λ (y : Layout). c.load-word.result ≤ y.entries) (sym of.layout) (next_high home s of c.args.entry may c.load-word.new.seat.view c.load-word.result c.load-word.ensures.event))

pub prove-unreachable-requires : goal.prove-unreachable-requires
prove-unreachable-requires c =
    let s = c.self.inside.seat in
    let home : Home = c.table.inside.ruled in
    let of : IsOf home s = subst (λ (h : Home). IsOf h s) (sym c.table.view_is) c.self.invariant.1 in
    let may : MayReadNext s.view c.args.entry = subst (λ (p : Pass). MayReadNext p.view c.args.entry) (sym c.self.view_is) c.requires.may in
    let high : c.load-word.result ≤ home.layout.entries = next_high home s of c.args.entry may c.load-word.new.seat.view c.load-word.result c.load-word.ensures.event in
    omega (arith, c.if-prove.true, high, ap (λ (y : Layout). y.entries) c.layout-entries.ensures)
