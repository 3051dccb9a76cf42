use Rattle.std.proofs.Common.{ap, ◌∙◌, sym, subst}
use Rattle.core_events.specs.UpdateMoves.{prepared}
use Rattle.core_laws.specs.ViewNeeds.{MayPrepare}
use Rattle.table_rule.specs.Homes.{Home, IsOf}
use Rattle.table_steps.specs.Passes.{Pass}
use Rattle.table_steps.proofs.UpdateSteps.{prepare_asks, prepare_gives, prepare_keeps, prepare_once}
use Rattle.table_steps.proofs.pass.TablePass.prepare.Goals as goal

pub store-requires-clause-asks : goal.store-requires-clause-asks
store-requires-clause-asks c =
    let s = c.self.inside.seat in
    let k = c.self.inside.kept in
    let home : Home = c.table.inside.ruled in
    let keeps = c.self.invariant.0 in
    let of : IsOf home s = subst (λ (h : Home). IsOf h s) (sym c.table.view_is) c.self.invariant.1 in
    let may : MayPrepare s.view c.args.node c.args.side c.args.entry = subst (λ (p : Pass). MayPrepare p.view c.args.node c.args.side c.args.entry) (sym c.self.view_is) c.requires.may in
    prepare_asks home s k keeps of c.facts.ensures c.args.node c.args.side c.args.entry may

pub take_entry-requires : goal.take_entry-requires
take_entry-requires c =
    let s = c.self.inside.seat in
    let k = c.self.inside.kept in
    let home : Home = c.table.inside.ruled in
    let keeps = c.self.invariant.0 in
    let of : IsOf home s = subst (λ (h : Home). IsOf h s) (sym c.table.view_is) c.self.invariant.1 in
    let may : MayPrepare s.view c.args.node c.args.side c.args.entry = subst (λ (p : Pass). MayPrepare p.view c.args.node c.args.side c.args.entry) (sym c.self.view_is) c.requires.may in
    prepare_once home s k keeps of c.facts.ensures c.args.node c.args.side c.args.entry may

pub invariant_of-self : goal.invariant_of-self
invariant_of-self c =
    let s = c.self.inside.seat in
    let k = c.self.inside.kept in
    let home : Home = c.table.inside.ruled in
    let keeps = c.self.invariant.0 in
    let of : IsOf home s = subst (λ (h : Home). IsOf h s) (sym c.table.view_is) c.self.invariant.1 in
    let may : MayPrepare s.view c.args.node c.args.side c.args.entry = subst (λ (p : Pass). MayPrepare p.view c.args.node c.args.side c.args.entry) (sym c.self.view_is) c.requires.may in (
      prepare_keeps home s k keeps of c.facts.ensures c.args.node c.args.side c.args.entry may c.store.new.seat.view c.take_entry.new.self c.store.ensures.event c.take_entry.ensures,
      subst (λ (h : Home). IsOf h c.store.new.seat) c.table.view_is c.store.ensures.of,
    )

pub returns-clause-view : goal.returns-clause-view
returns-clause-view c =
    let s = c.self.inside.seat in
    let k = c.self.inside.kept in
    let home : Home = c.table.inside.ruled in
    let keeps = c.self.invariant.0 in
    let of : IsOf home s = subst (λ (h : Home). IsOf h s) (sym c.table.view_is) c.self.invariant.1 in
    let may : MayPrepare s.view c.args.node c.args.side c.args.entry = subst (λ (p : Pass). MayPrepare p.view c.args.node c.args.side c.args.entry) (sym c.self.view_is) c.requires.may in
    prepare_gives home s k keeps of c.facts.ensures c.args.node c.args.side c.args.entry may c.store.new.seat.view c.store.ensures.event
    ∙ ap (λ (p : Pass). prepared p.view c.args.side c.args.node c.args.entry) c.self.view_is
