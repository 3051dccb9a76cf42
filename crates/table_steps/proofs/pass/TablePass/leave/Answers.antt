use Rattle.std.proofs.Common.{ap, ◌∙◌, sym, subst}
use Rattle.index_words.specs.declared.view.View.{View}
use Rattle.core_grace.specs.Sections.{left_word}
use Rattle.core_events.specs.Moves.{left}
use Rattle.table_rule.specs.Homes.{Home, IsOf}
use Rattle.index_words.specs.declared.word.Word.TheVariants.{Section}
use Rattle.core_events.specs.declared.event.Kind.TheVariants.{Leave}
use Rattle.core_laws.specs.ViewNeeds.{event_at}
use Rattle.table_rule.specs.Running.{Stored}
use Rattle.table_steps.specs.Passes.{Pass, Inside}
use Rattle.table_steps.proofs.SectionSteps.{leave_asks, leave_view, leave_outside, leave_keeps, leave_event}
use Rattle.table_steps.proofs.pass.TablePass.leave.Goals as goal

pub store-requires-clause-asks : goal.store-requires-clause-asks
store-requires-clause-asks c =
    let s = c.self.inside.seat in
    let k = c.self.inside.kept in
    let home : Home = c.table.inside.ruled in
    let keeps = c.self.invariant.0 in
    let of : IsOf home s = subst (λ (h : Home). IsOf h s) (sym c.table.view_is) c.self.invariant.1 in
    let inside : Inside s.view = subst (λ (p : Pass). Inside p.view) (sym c.self.view_is) c.requires.inside in
    rw c.left_word-word.ensures (leave_asks home s k keeps of inside)

pub invariant_of-self : goal.invariant_of-self
invariant_of-self c =
    let s = c.self.inside.seat in
    let k = c.self.inside.kept in
    let home : Home = c.table.inside.ruled in
    let keeps = c.self.invariant.0 in
    let of : IsOf home s = subst (λ (h : Home). IsOf h s) (sym c.table.view_is) c.self.invariant.1 in
    let inside : Inside s.view = subst (λ (p : Pass). Inside p.view) (sym c.self.view_is) c.requires.inside in
    let is = c.left_word-word.ensures in
    let went : Stored home.layout (leave_event home s k keeps of) s.view c.store.new.seat.view
    = subst (λ n. Stored home.layout (event_at home.layout s.seat Leave (Section k.number) n) s.view c.store.new.seat.view) is c.store.ensures.event in (
      rw (is, c.forget.ensures) (leave_keeps home s k keeps of c.store.new.seat.view went),
      subst (λ (h : Home). IsOf h c.store.new.seat) c.table.view_is c.store.ensures.of,
    )

pub returns-clause-view : goal.returns-clause-view
returns-clause-view c =
    let s = c.self.inside.seat in
    let k = c.self.inside.kept in
    let home : Home = c.table.inside.ruled in
    let keeps = c.self.invariant.0 in
    let of : IsOf home s = subst (λ (h : Home). IsOf h s) (sym c.table.view_is) c.self.invariant.1 in
    let is = c.left_word-word.ensures in
    let went : Stored home.layout (leave_event home s k keeps of) s.view c.store.new.seat.view
    = subst (λ n. Stored home.layout (event_at home.layout s.seat Leave (Section k.number) n) s.view c.store.new.seat.view) is c.store.ensures.event in
    leave_view home s k keeps of c.store.new.seat.view went
    ∙ ap (λ n. left s.view (left_word n)) (sym keeps.word)
    ∙ ap (λ (p : Pass). left p.view (left_word p.view.section_word)) c.self.view_is

pub returns-clause-outside : goal.returns-clause-outside
returns-clause-outside c =
    let s = c.self.inside.seat in
    let k = c.self.inside.kept in
    let home : Home = c.table.inside.ruled in
    let keeps = c.self.invariant.0 in
    let of : IsOf home s = subst (λ (h : Home). IsOf h s) (sym c.table.view_is) c.self.invariant.1 in
    let inside : Inside s.view = subst (λ (p : Pass). Inside p.view) (sym c.self.view_is) c.requires.inside in
    let is = c.left_word-word.ensures in
    let went : Stored home.layout (leave_event home s k keeps of) s.view c.store.new.seat.view
    = subst (λ n. Stored home.layout (event_at home.layout s.seat Leave (Section k.number) n) s.view c.store.new.seat.view) is c.store.ensures.event in
    leave_outside home s k keeps of inside c.store.new.seat.view went

pub returns-clause-announced : goal.returns-clause-announced
returns-clause-announced c =
    let s = c.self.inside.seat in
    let k = c.self.inside.kept in
    let home : Home = c.table.inside.ruled in
    let keeps = c.self.invariant.0 in
    let of : IsOf home s = subst (λ (h : Home). IsOf h s) (sym c.table.view_is) c.self.invariant.1 in
    let went : Stored home.layout (leave_event home s k keeps of) s.view c.store.new.seat.view
    = subst (λ n. Stored home.layout (event_at home.layout s.seat Leave (Section k.number) n) s.view c.store.new.seat.view) c.left_word-word.ensures c.store.ensures.event in
    ap (λ (u : View). u.announced) (leave_view home s k keeps of c.store.new.seat.view went) ∙ ap (λ (p : Pass). p.view.announced) c.self.view_is
