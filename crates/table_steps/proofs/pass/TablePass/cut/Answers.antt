use Rattle.std.proofs.Common.{◌≡◌, [], ap, ◌∙◌, sym, subst}
use Rattle.index_words.specs.declared.layout.Layout.{Layout}
use Rattle.index_words.specs.declared.word.Part.TheVariants.{Next}
use Rattle.index_words.specs.declared.word.Word.TheVariants.{Entry}
use Rattle.core_events.specs.declared.event.Kind.TheVariants.{Cut}
use Rattle.core_laws.specs.ViewNeeds.{event_at}
use Rattle.table_rule.specs.Homes.{Asks, Home, IsOf, Sat}
use Rattle.table_rule.specs.Running.{Stored}
use Rattle.table_steps.specs.Cuts.{CanCutBehind, HasCut}
use Rattle.table_steps.specs.Passes.{Pass}
use Rattle.table_steps.specs.Raises.{HoldsChain}
use Rattle.table_steps.specs.Retires.{HasRoomFor}
use Rattle.table_steps.proofs.CutSteps.{cut_asks, cut_gives, cut_chain, cut_keeps, room_ahead}
use Rattle.table_steps.proofs.pass.TablePass.cut.Goals as goal

pub retire_bundle-requires-clause-chain : goal.retire_bundle-requires-clause-chain
retire_bundle-requires-clause-chain c =
    let s = c.self.inside.seat in
    let k = c.self.inside.kept in
    let home : Home = c.table.inside.ruled in
    let of : IsOf home s = subst (λ (h : Home). IsOf h s) (sym c.table.view_is) c.self.invariant.1 in
    let can : CanCutBehind s.view c.args.entry = subst (λ (p : Pass). CanCutBehind p.view c.args.entry) (sym c.self.view_is) c.requires.can in
    let next : HoldsChain s.view can.0 c.next_again-next.result can.2.back
    = c.next_again-next.ensures.chain can.0 can.2.back (cut_chain home s k c.self.invariant.0 of c.facts.ensures c.args.entry can.0 can.1 can.2) in (
      can.0,
      can.2.back,
      subst (λ (x : Sat). HoldsChain x.view can.0 c.next_again-next.result can.2.back) (sym c.next_again-next.ensures.same) next,
      subst (λ n. HasRoomFor [] can.2.back n k.slots) (ap (λ (z : Layout). z.entries) (sym c.layout-limit.ensures)) (room_ahead home s k c.self.invariant.0 of c.facts.ensures c.args.entry can.0 can.1 can.2),
    )

pub store-requires-clause-asks : goal.store-requires-clause-asks
store-requires-clause-asks c =
    let s = c.self.inside.seat in
    let k = c.self.inside.kept in
    let home : Home = c.table.inside.ruled in
    let of : IsOf home s = subst (λ (h : Home). IsOf h s) (sym c.table.view_is) c.self.invariant.1 in
    let can : CanCutBehind s.view c.args.entry = subst (λ (p : Pass). CanCutBehind p.view c.args.entry) (sym c.self.view_is) c.requires.can in
    let same : c.retire_bundle.new.seat ≡ s = c.retire_bundle.ensures.same ∙ c.next_again-next.ensures.same in
    subst (λ (x : Sat). Asks home x (Entry Next c.args.entry) (event_at home.layout x.seat Cut (Entry Next c.args.entry) 0)) (sym same) (cut_asks home s k c.self.invariant.0 of c.facts.ensures c.args.entry can.0 can.1 can.2)

pub invariant_of-self : goal.invariant_of-self
invariant_of-self c =
    let s = c.self.inside.seat in
    let k = c.self.inside.kept in
    let home : Home = c.table.inside.ruled in
    let of : IsOf home s = subst (λ (h : Home). IsOf h s) (sym c.table.view_is) c.self.invariant.1 in
    let can : CanCutBehind s.view c.args.entry = subst (λ (p : Pass). CanCutBehind p.view c.args.entry) (sym c.self.view_is) c.requires.can in
    let w = c.store.new.seat.view in
    let same : c.retire_bundle.new.seat ≡ s = c.retire_bundle.ensures.same ∙ c.next_again-next.ensures.same in
    let went : Stored home.layout (event_at home.layout s.seat Cut (Entry Next c.args.entry) 0) s.view w
    = subst (λ (x : Sat). Stored home.layout (event_at home.layout x.seat Cut (Entry Next c.args.entry) 0) x.view w) same c.store.ensures.event in
    let next : HoldsChain s.view can.0 c.next_again-next.result can.2.back
    = c.next_again-next.ensures.chain can.0 can.2.back (cut_chain home s k c.self.invariant.0 of c.facts.ensures c.args.entry can.0 can.1 can.2) in
    let chain : HoldsChain c.next_again-next.new.seat.view can.0 c.next_again-next.result can.2.back
    = subst (λ (x : Sat). HoldsChain x.view can.0 c.next_again-next.result can.2.back) (sym c.next_again-next.ensures.same) next in (
      cut_keeps home s k c.self.invariant.0 of c.facts.ensures c.args.entry can.0 can.1 can.2 w went c.retire_bundle.new.slots (c.retire_bundle.ensures.retired can.0 can.2.back chain),
      subst (λ (h : Home). IsOf h c.store.new.seat) c.table.view_is c.store.ensures.of,
    )

pub returns-clause-gives : goal.returns-clause-gives
returns-clause-gives c =
    let s = c.self.inside.seat in
    let k = c.self.inside.kept in
    let home : Home = c.table.inside.ruled in
    let of : IsOf home s = subst (λ (h : Home). IsOf h s) (sym c.table.view_is) c.self.invariant.1 in
    let w = c.store.new.seat.view in
    let same : c.retire_bundle.new.seat ≡ s = c.retire_bundle.ensures.same ∙ c.next_again-next.ensures.same in
    let went : Stored home.layout (event_at home.layout s.seat Cut (Entry Next c.args.entry) 0) s.view w
    = subst (λ (x : Sat). Stored home.layout (event_at home.layout x.seat Cut (Entry Next c.args.entry) 0) x.view w) same c.store.ensures.event in
    subst (λ (p : Pass). HasCut p.view c.args.entry w) c.self.view_is (λ node side can. cut_gives home s k c.self.invariant.0 of c.facts.ensures c.args.entry node side can w went)
