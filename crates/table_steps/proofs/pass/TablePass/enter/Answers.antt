use Rattle.std.proofs.Common.{◌≡◌, ◌+◌, ap, ◌∙◌, sym, subst, Some}
use Rattle.index_words.specs.declared.layout.Layout.{Layout}
use Rattle.index_words.specs.declared.view.View.{View}
use Rattle.core_grace.specs.Batches.{settled, batch_taken}
use Rattle.core_events.specs.Moves.{entered}
use Rattle.pass_slots.specs.Owned.{KeepsSlots}
use Rattle.table_rule.specs.Homes.{Home, IsOf}
use Rattle.core_laws.specs.ViewNeeds.{IsOutside}
use Rattle.table_steps.specs.Passes.{Pass}
use Rattle.table_steps.proofs.SectionSteps.{enter_announced, enter_asks, enter_view, enter_inside, enter_keeps}
use Rattle.table_steps.proofs.pass.TablePass.enter.Goals as goal

pub store-requires-clause-asks : goal.store-requires-clause-asks
store-requires-clause-asks c =
    let s = c.self.inside.seat in
    let k = c.self.inside.kept in
    let home : Home = c.table.inside.ruled in
    let keeps = c.self.invariant.0 in
    let of : IsOf home s = subst (λ (h : Home). IsOf h s) (sym c.table.view_is) c.self.invariant.1 in
    let outside : IsOutside s.view = subst (λ (p : Pass). IsOutside p.view) (sym c.self.view_is) c.requires.outside in
    enter_asks home s k keeps of outside

pub invariant_of-self : goal.invariant_of-self
invariant_of-self c =
    let s = c.self.inside.seat in
    let k = c.self.inside.kept in
    let home : Home = c.table.inside.ruled in
    let keeps = c.self.invariant.0 in
    let of : IsOf home s = subst (λ (h : Home). IsOf h s) (sym c.table.view_is) c.self.invariant.1 in
    let kept : (u : View) → KeepsSlots u k.slots → u.number ≡ Some k.number → KeepsSlots (settled home.layout.passes (batch_taken u)) c.enter.new.self
    = subst (λ (y : Layout). (u : View) → KeepsSlots u k.slots → u.number ≡ Some k.number → KeepsSlots (settled y.passes (batch_taken u)) c.enter.new.self) c.layout-passes.ensures c.enter.ensures.keeps in (
      enter_keeps home s k keeps of c.store.new.seat.view c.enter.new.self c.store.ensures.event kept c.enter.ensures.room,
      subst (λ (h : Home). IsOf h c.store.new.seat) c.table.view_is c.store.ensures.of,
    )

pub returns-clause-view : goal.returns-clause-view
returns-clause-view c =
    let s = c.self.inside.seat in
    let k = c.self.inside.kept in
    let home : Home = c.table.inside.ruled in
    let keeps = c.self.invariant.0 in
    let of : IsOf home s = subst (λ (h : Home). IsOf h s) (sym c.table.view_is) c.self.invariant.1 in
    enter_view home s k keeps of c.store.new.seat.view c.store.ensures.event
    ∙ ap (λ (y : Layout). entered y.passes s.view (k.section_word + 1)) (sym of.layout)
    ∙ ap (λ n. entered s.view.layout.passes s.view (n + 1)) (sym keeps.word)
    ∙ ap (λ (p : Pass). entered p.view.layout.passes p.view (p.view.section_word + 1)) c.self.view_is

pub returns-clause-inside : goal.returns-clause-inside
returns-clause-inside c =
    let s = c.self.inside.seat in
    let k = c.self.inside.kept in
    let home : Home = c.table.inside.ruled in
    let keeps = c.self.invariant.0 in
    let of : IsOf home s = subst (λ (h : Home). IsOf h s) (sym c.table.view_is) c.self.invariant.1 in
    let outside : IsOutside s.view = subst (λ (p : Pass). IsOutside p.view) (sym c.self.view_is) c.requires.outside in
    enter_inside home s k keeps of outside c.store.new.seat.view c.store.ensures.event

pub returns-clause-announced : goal.returns-clause-announced
returns-clause-announced c =
    let s = c.self.inside.seat in
    let k = c.self.inside.kept in
    let home : Home = c.table.inside.ruled in
    let keeps = c.self.invariant.0 in
    let of : IsOf home s = subst (λ (h : Home). IsOf h s) (sym c.table.view_is) c.self.invariant.1 in
    enter_announced home s k keeps of c.store.new.seat.view c.store.ensures.event ∙ ap (λ (p : Pass). p.view.announced) c.self.view_is
