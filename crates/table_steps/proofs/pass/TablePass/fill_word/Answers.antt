use Rattle.std.proofs.Common.{◌≡◌, true, ap, ◌∙◌, sym, subst}
use Rattle.core_events.specs.FillMoves.{filled_view}
use Rattle.core_laws.specs.ViewNeeds.{MayFill}
use Rattle.table_rule.specs.Homes.{Home, IsOf}
use Rattle.index_words.specs.Words.{is_there}
use Rattle.table_steps.specs.Passes.{Pass}
use Rattle.table_steps.proofs.SectionSteps.{fill_asks, fill_gives, fill_keeps}
use Rattle.table_steps.proofs.pass.TablePass.fill_word.Goals as goal

pub store-requires-clause-asks : goal.store-requires-clause-asks
store-requires-clause-asks c =
    let s = c.self.inside.seat in
    let k = c.self.inside.kept in
    let home : Home = c.table.inside.ruled in
    let keeps = c.self.invariant.0 in
    let of : IsOf home s = subst (λ (h : Home). IsOf h s) (sym c.table.view_is) c.self.invariant.1 in
    let there : is_there s.view.layout c.args.word ≡ true = subst (λ (p : Pass). is_there p.view.layout c.args.word ≡ true) (sym c.self.view_is) c.requires.there in
    let free : MayFill s.view c.args.word = subst (λ (p : Pass). MayFill p.view c.args.word) (sym c.self.view_is) c.requires.free in
    fill_asks home s k keeps of c.args.word c.args.value there free

pub invariant_of-self : goal.invariant_of-self
invariant_of-self c =
    let s = c.self.inside.seat in
    let k = c.self.inside.kept in
    let home : Home = c.table.inside.ruled in
    let keeps = c.self.invariant.0 in
    let of : IsOf home s = subst (λ (h : Home). IsOf h s) (sym c.table.view_is) c.self.invariant.1 in
    let there : is_there s.view.layout c.args.word ≡ true = subst (λ (p : Pass). is_there p.view.layout c.args.word ≡ true) (sym c.self.view_is) c.requires.there in (
      fill_keeps home s k keeps of c.args.word c.args.value there c.store.new.seat.view c.store.ensures.event,
      subst (λ (h : Home). IsOf h c.store.new.seat) c.table.view_is c.store.ensures.of,
    )

pub returns-clause-view : goal.returns-clause-view
returns-clause-view c =
    let s = c.self.inside.seat in
    let k = c.self.inside.kept in
    let home : Home = c.table.inside.ruled in
    let keeps = c.self.invariant.0 in
    let of : IsOf home s = subst (λ (h : Home). IsOf h s) (sym c.table.view_is) c.self.invariant.1 in
    let there : is_there s.view.layout c.args.word ≡ true = subst (λ (p : Pass). is_there p.view.layout c.args.word ≡ true) (sym c.self.view_is) c.requires.there in
    fill_gives home s k keeps of c.args.word c.args.value there c.store.new.seat.view c.store.ensures.event
    ∙ ap (λ (p : Pass). filled_view p.view c.args.word c.args.value) c.self.view_is
