use Rattle.std.proofs.Common.{◌≡◌, ◌≢◌, ◌<◌, ◌&&◌, false, ap, ◌∙◌, sym, subst, Some}
use Rattle.index_words.specs.declared.layout.Layout.{Layout}
use Rattle.index_words.specs.declared.view.View.{View}
use Rattle.core_grace.specs.Batches.{looked, is_empty}
use Rattle.pass_slots.specs.Owned.{KeepsSlots}
use Rattle.table_rule.specs.Homes.{Home, IsOf}
use Rattle.core_laws.specs.ViewNeeds.{IsOutside}
use Rattle.table_steps.specs.Passes.{Pass}
use Rattle.table_steps.proofs.SectionSteps.{look_asks, look_view, look_outside, look_announced, look_keeps}
use Rattle.table_steps.proofs.pass.TablePass.look_sec.Goals as goal

pub load-word-requires-clause-asks : goal.load-word-requires-clause-asks
load-word-requires-clause-asks c =
    let s = c.self.inside.seat in
    let k = c.self.inside.kept in
    let home : Home = c.table.inside.ruled in
    let keeps = c.self.invariant.0 in
    let of : IsOf home s = subst (λ (h : Home). IsOf h s) (sym c.table.view_is) c.self.invariant.1 in
    let outside : IsOutside s.view = subst (λ (p : Pass). IsOutside p.view) (sym c.self.view_is) c.requires.outside in
    let there : c.args.other < s.view.layout.passes = subst (λ (p : Pass). c.args.other < p.view.layout.passes) (sym c.self.view_is) c.requires.there in
    let apart : c.args.other ≢ k.number = subst (λ (p : Pass). c.args.other ≢ p.number) (sym c.self.view_is) c.requires.other in
    let waiting = subst (λ (p : Pass). (is_empty p.view.batch && is_empty p.view.retired) ≡ false) (sym c.self.view_is) c.requires.waiting in
    look_asks home s k keeps of c.args.other there outside apart waiting

pub invariant_of-self : goal.invariant_of-self
invariant_of-self c =
    let s = c.self.inside.seat in
    let k = c.self.inside.kept in
    let home : Home = c.table.inside.ruled in
    let keeps = c.self.invariant.0 in
    let of : IsOf home s = subst (λ (h : Home). IsOf h s) (sym c.table.view_is) c.self.invariant.1 in
    let outside : IsOutside s.view = subst (λ (p : Pass). IsOutside p.view) (sym c.self.view_is) c.requires.outside in
    let there : c.args.other < s.view.layout.passes = subst (λ (p : Pass). c.args.other < p.view.layout.passes) (sym c.self.view_is) c.requires.there in
    let n = c.load-word.result in
    let kept : (u : View) → KeepsSlots u k.slots → u.number ≡ Some k.number → KeepsSlots (looked home.layout.passes u c.args.other n) c.look.new.self
    = subst (λ (y : Layout). (u : View) → KeepsSlots u k.slots → u.number ≡ Some k.number → KeepsSlots (looked y.passes u c.args.other n) c.look.new.self) c.layout-passes.ensures c.look.ensures.keeps in (
      look_keeps home s k keeps of c.args.other there outside c.load-word.new.seat.view n c.look.new.self c.load-word.ensures.event kept c.look.ensures.room,
      subst (λ (h : Home). IsOf h c.load-word.new.seat) c.table.view_is c.load-word.ensures.of,
    )

pub returns-clause-view : goal.returns-clause-view
returns-clause-view c =
    let s = c.self.inside.seat in
    let k = c.self.inside.kept in
    let home : Home = c.table.inside.ruled in
    let keeps = c.self.invariant.0 in
    let of : IsOf home s = subst (λ (h : Home). IsOf h s) (sym c.table.view_is) c.self.invariant.1 in
    let outside : IsOutside s.view = subst (λ (p : Pass). IsOutside p.view) (sym c.self.view_is) c.requires.outside in
    let there : c.args.other < s.view.layout.passes = subst (λ (p : Pass). c.args.other < p.view.layout.passes) (sym c.self.view_is) c.requires.there in
    let n = c.load-word.result in
    look_view home s k keeps of c.args.other there outside c.load-word.new.seat.view n c.load-word.ensures.event
    ∙ ap (λ (y : Layout). looked y.passes s.view c.args.other n) (sym of.layout)
    ∙ ap (λ (p : Pass). looked p.view.layout.passes p.view c.args.other n) c.self.view_is

pub returns-clause-outside : goal.returns-clause-outside
returns-clause-outside c =
    let s = c.self.inside.seat in
    let k = c.self.inside.kept in
    let home : Home = c.table.inside.ruled in
    let keeps = c.self.invariant.0 in
    let of : IsOf home s = subst (λ (h : Home). IsOf h s) (sym c.table.view_is) c.self.invariant.1 in
    let outside : IsOutside s.view = subst (λ (p : Pass). IsOutside p.view) (sym c.self.view_is) c.requires.outside in
    let there : c.args.other < s.view.layout.passes = subst (λ (p : Pass). c.args.other < p.view.layout.passes) (sym c.self.view_is) c.requires.there in
    look_outside home s k keeps of c.args.other there outside c.load-word.new.seat.view c.load-word.result c.load-word.ensures.event

pub returns-clause-announced : goal.returns-clause-announced
returns-clause-announced c =
    let s = c.self.inside.seat in
    let k = c.self.inside.kept in
    let home : Home = c.table.inside.ruled in
    let keeps = c.self.invariant.0 in
    let of : IsOf home s = subst (λ (h : Home). IsOf h s) (sym c.table.view_is) c.self.invariant.1 in
    let outside : IsOutside s.view = subst (λ (p : Pass). IsOutside p.view) (sym c.self.view_is) c.requires.outside in
    let there : c.args.other < s.view.layout.passes = subst (λ (p : Pass). c.args.other < p.view.layout.passes) (sym c.self.view_is) c.requires.there in
    look_announced home s k keeps of c.args.other there outside c.load-word.new.seat.view c.load-word.result c.load-word.ensures.event ∙ ap (λ (p : Pass). p.view.announced) c.self.view_is
