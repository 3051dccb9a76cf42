use Rattle.std.proofs.Common.{ap, ◌∙◌, sym, subst}
use Rattle.core_events.specs.UpdateMoves.{finalised}
use Rattle.core_laws.specs.ViewNeeds.{MayFinalise}
use Rattle.table_rule.specs.Homes.{Home, IsOf}
use Rattle.table_steps.specs.Passes.{Pass}
use Rattle.table_steps.specs.Updates.{raised_at}
use Rattle.table_steps.proofs.UpdateSteps.{finalise_asks, finalise_gives, finalise_keeps}
use Rattle.table_steps.proofs.pass.TablePass.finalise.Goals as goal

pub store-requires-clause-asks : goal.store-requires-clause-asks
store-requires-clause-asks c =
    let s = c.self.inside.seat in
    let k = c.self.inside.kept in
    let home : Home = c.table.inside.ruled in
    let keeps = c.self.invariant.0 in
    let of : IsOf home s = subst (λ (h : Home). IsOf h s) (sym c.table.view_is) c.self.invariant.1 in
    let may : MayFinalise s.view c.args.entry (raised_at s.view) = subst (λ (p : Pass). MayFinalise p.view c.args.entry (raised_at p.view)) (sym c.self.view_is) c.requires.may in
    finalise_asks home s k keeps of c.facts.ensures c.args.entry may

pub invariant_of-self : goal.invariant_of-self
invariant_of-self c =
    let s = c.self.inside.seat in
    let k = c.self.inside.kept in
    let home : Home = c.table.inside.ruled in
    let keeps = c.self.invariant.0 in
    let of : IsOf home s = subst (λ (h : Home). IsOf h s) (sym c.table.view_is) c.self.invariant.1 in
    let may : MayFinalise s.view c.args.entry (raised_at s.view) = subst (λ (p : Pass). MayFinalise p.view c.args.entry (raised_at p.view)) (sym c.self.view_is) c.requires.may in (
      finalise_keeps home s k keeps of c.facts.ensures c.args.entry may c.store.new.seat.view c.store.ensures.event,
      subst (λ (h : Home). IsOf h c.store.new.seat) c.table.view_is c.store.ensures.of,
    )

pub returns-clause-view : goal.returns-clause-view
returns-clause-view c =
    let s = c.self.inside.seat in
    let k = c.self.inside.kept in
    let home : Home = c.table.inside.ruled in
    let keeps = c.self.invariant.0 in
    let of : IsOf home s = subst (λ (h : Home). IsOf h s) (sym c.table.view_is) c.self.invariant.1 in
    let may : MayFinalise s.view c.args.entry (raised_at s.view) = subst (λ (p : Pass). MayFinalise p.view c.args.entry (raised_at p.view)) (sym c.self.view_is) c.requires.may in
    finalise_gives home s k keeps of c.facts.ensures c.args.entry may c.store.new.seat.view c.store.ensures.event
    ∙ ap (λ (p : Pass). finalised p.view c.args.entry) c.self.view_is
