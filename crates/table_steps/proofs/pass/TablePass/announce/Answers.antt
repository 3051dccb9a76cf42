use Rattle.std.proofs.Common.{ap, ◌∙◌, sym, subst}
use Rattle.index_words.specs.declared.layout.Layout.{Layout}
use Rattle.index_words.specs.declared.word.Word.TheVariants.{Announced}
use Rattle.core_events.specs.Announcing.{announced_view}
use Rattle.core_events.specs.declared.event.Kind.TheVariants.{Announce}
use Rattle.core_laws.specs.ViewNeeds.{event_at}
use Rattle.table_rule.specs.Homes.{Home, IsOf}
use Rattle.table_rule.specs.Running.{Stored}
use Rattle.table_steps.specs.Passes.{Pass}
use Rattle.table_steps.specs.Stamps.{announced_word, announcing, CanAnnounce}
use Rattle.table_steps.proofs.LoadSteps.{pass_of}
use Rattle.table_steps.proofs.StampSteps.{announce_asks, announce_keeps, announce_view, number_few}
use Rattle.table_steps.proofs.pass.TablePass.announce.Goals as goal

pub word_to_announce-word-requires : goal.word_to_announce-word-requires
word_to_announce-word-requires c =
    let s = c.self.inside.seat in
    let k = c.self.inside.kept in
    let home : Home = c.table.inside.ruled in
    let keeps = c.self.invariant.0 in
    let of : IsOf home s = subst (λ (h : Home). IsOf h s) (sym c.table.view_is) c.self.invariant.1 in
    let can : CanAnnounce (pass_of s k.number) c.args.number = subst (λ (p : Pass). CanAnnounce p c.args.number) (sym c.self.view_is) c.requires.can in
    record { few = rw c.layout.ensures (number_few home s k keeps of c.facts.ensures c.args.number can) }

pub store-requires-clause-asks : goal.store-requires-clause-asks
store-requires-clause-asks c =
    let s = c.self.inside.seat in
    let k = c.self.inside.kept in
    let home : Home = c.table.inside.ruled in
    let keeps = c.self.invariant.0 in
    let of : IsOf home s = subst (λ (h : Home). IsOf h s) (sym c.table.view_is) c.self.invariant.1 in
    let can : CanAnnounce (pass_of s k.number) c.args.number = subst (λ (p : Pass). CanAnnounce p c.args.number) (sym c.self.view_is) c.requires.can in
    announce_asks home s k keeps of c.word_to_announce-word.result c.args.number c.word_to_announce-word.ensures can

pub invariant_of-self : goal.invariant_of-self
invariant_of-self c =
    let s = c.self.inside.seat in
    let k = c.self.inside.kept in
    let home : Home = c.table.inside.ruled in
    let keeps = c.self.invariant.0 in
    let of : IsOf home s = subst (λ (h : Home). IsOf h s) (sym c.table.view_is) c.self.invariant.1 in (
      announce_keeps home s k keeps of c.word_to_announce-word.result c.store.new.seat.view c.store.ensures.event,
      subst (λ (h : Home). IsOf h c.store.new.seat) c.table.view_is c.store.ensures.of,
    )

pub returns-clause-event : goal.returns-clause-event
returns-clause-event c =
    let s = c.self.inside.seat in
    let home : Home = c.table.inside.ruled in
    let of : IsOf home s = subst (λ (h : Home). IsOf h s) (sym c.table.view_is) c.self.invariant.1 in
    let w = c.store.new.seat.view in
    let named : Stored home.layout (event_at home.layout s.seat Announce (Announced c.self.inside.kept.number) (announced_word c.args.number)) s.view w
    = subst (λ n. Stored home.layout (event_at home.layout s.seat Announce (Announced c.self.inside.kept.number) n) s.view w) c.word_to_announce-word.ensures c.store.ensures.event in
    subst (λ (p : Pass). Stored p.view.layout (announcing p c.args.number) p.view w) c.self.view_is
    (subst (λ (z : Layout). Stored z (event_at z s.seat Announce (Announced c.self.inside.kept.number) (announced_word c.args.number)) s.view w) (sym of.layout) named)

pub returns-clause-view : goal.returns-clause-view
returns-clause-view c =
    let s = c.self.inside.seat in
    let k = c.self.inside.kept in
    let home : Home = c.table.inside.ruled in
    let keeps = c.self.invariant.0 in
    let of : IsOf home s = subst (λ (h : Home). IsOf h s) (sym c.table.view_is) c.self.invariant.1 in
    announce_view home s k keeps of c.word_to_announce-word.result c.store.new.seat.view c.store.ensures.event
    ∙ ap (announced_view s.view) c.word_to_announce-word.ensures
    ∙ ap (λ (p : Pass). announced_view p.view (announced_word c.args.number)) c.self.view_is
