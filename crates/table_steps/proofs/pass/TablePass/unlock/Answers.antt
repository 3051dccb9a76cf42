use Rattle.std.proofs.Common.{ap, ◌∙◌, sym, subst}
use Rattle.core_events.specs.LockMoves.{unlocked_view}
use Rattle.core_laws.specs.ViewNeeds.{MayUnlock}
use Rattle.table_rule.specs.Homes.{Home, IsOf}
use Rattle.table_steps.specs.Passes.{Pass}
use Rattle.table_steps.proofs.UpdateSteps.{unlock_asks, unlock_gives, unlock_keeps}
use Rattle.table_steps.proofs.pass.TablePass.unlock.Goals as goal

pub store-requires-clause-asks : goal.store-requires-clause-asks
store-requires-clause-asks c =
    let s = c.self.inside.seat in
    let k = c.self.inside.kept in
    let home : Home = c.table.inside.ruled in
    let keeps = c.self.invariant.0 in
    let of : IsOf home s = subst (λ (h : Home). IsOf h s) (sym c.table.view_is) c.self.invariant.1 in
    let may : MayUnlock s.view c.args.node = subst (λ (p : Pass). MayUnlock p.view c.args.node) (sym c.self.view_is) c.requires.may in
    unlock_asks home s k keeps of c.facts.ensures c.args.node may

pub invariant_of-self : goal.invariant_of-self
invariant_of-self c =
    let s = c.self.inside.seat in
    let k = c.self.inside.kept in
    let home : Home = c.table.inside.ruled in
    let keeps = c.self.invariant.0 in
    let of : IsOf home s = subst (λ (h : Home). IsOf h s) (sym c.table.view_is) c.self.invariant.1 in
    let may : MayUnlock s.view c.args.node = subst (λ (p : Pass). MayUnlock p.view c.args.node) (sym c.self.view_is) c.requires.may in (
      unlock_keeps home s k keeps of c.facts.ensures c.args.node may c.store.new.seat.view c.store.ensures.event,
      subst (λ (h : Home). IsOf h c.store.new.seat) c.table.view_is c.store.ensures.of,
    )

pub returns-clause-view : goal.returns-clause-view
returns-clause-view c =
    let s = c.self.inside.seat in
    let k = c.self.inside.kept in
    let home : Home = c.table.inside.ruled in
    let keeps = c.self.invariant.0 in
    let of : IsOf home s = subst (λ (h : Home). IsOf h s) (sym c.table.view_is) c.self.invariant.1 in
    let may : MayUnlock s.view c.args.node = subst (λ (p : Pass). MayUnlock p.view c.args.node) (sym c.self.view_is) c.requires.may in
    unlock_gives home s k keeps of c.facts.ensures c.args.node may c.store.new.seat.view c.store.ensures.event
    ∙ ap (λ (p : Pass). unlocked_view p.view c.args.node) c.self.view_is
