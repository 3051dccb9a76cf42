use Rattle.std.proofs.Common.{◌≡◌, sym, subst}
use Rattle.core_events.specs.LoadMoves.{ts_loaded}
use Rattle.core_laws.specs.ViewNeeds.{MayReadNumber}
use Rattle.table_rule.specs.Homes.{Home, IsOf}
use Rattle.table_steps.specs.Passes.{Pass}
use Rattle.table_steps.proofs.LoadSteps.{number_asks, number_gives, number_keeps}
use Rattle.table_steps.proofs.pass.TablePass.load_ts.Goals as goal

pub load-requires-clause-asks : goal.load-requires-clause-asks
load-requires-clause-asks c =
    let s = c.self.inside.seat in
    let home : Home = c.table.inside.ruled in
    let of : IsOf home s = subst (λ (h : Home). IsOf h s) (sym c.table.view_is) c.self.invariant.1 in
    let may : MayReadNumber s.view c.args.entry = subst (λ (p : Pass). MayReadNumber p.view c.args.entry) (sym c.self.view_is) c.requires.may in
    number_asks home s of c.args.entry may

pub invariant_of-self : goal.invariant_of-self
invariant_of-self c =
    let s = c.self.inside.seat in
    let home : Home = c.table.inside.ruled in
    let of : IsOf home s = subst (λ (h : Home). IsOf h s) (sym c.table.view_is) c.self.invariant.1 in
    let may : MayReadNumber s.view c.args.entry = subst (λ (p : Pass). MayReadNumber p.view c.args.entry) (sym c.self.view_is) c.requires.may in
    let keeps = c.self.invariant.0 in (
      number_keeps home s of c.args.entry may c.load.new.seat.view c.load.result c.load.ensures.event c.self.inside.kept keeps,
      subst (λ (h : Home). IsOf h c.load.new.seat) c.table.view_is c.load.ensures.of,
    )

pub returns-clause-view : goal.returns-clause-view
returns-clause-view c =
    let s = c.self.inside.seat in
    let home : Home = c.table.inside.ruled in
    let of : IsOf home s = subst (λ (h : Home). IsOf h s) (sym c.table.view_is) c.self.invariant.1 in
    let may : MayReadNumber s.view c.args.entry = subst (λ (p : Pass). MayReadNumber p.view c.args.entry) (sym c.self.view_is) c.requires.may in
    subst (λ (p : Pass). c.load.new.seat.view ≡ ts_loaded p.view c.args.entry c.load.result) c.self.view_is (number_gives home s of c.args.entry may c.load.new.seat.view c.load.result c.load.ensures.event)
