use Rattle.std.proofs.Common.{◌≡◌, false, sym, subst}
use Rattle.core_events.specs.Waits.{has_no_lock, looked_waiting}
use Rattle.core_laws.specs.Waits.{MayLookWaiting}
use Rattle.table_rule.specs.Homes.{Home, IsOf}
use Rattle.table_steps.specs.Passes.{Pass}
use Rattle.table_steps.proofs.SectionSteps.{look_waiting_asks, look_waiting_view, look_waiting_keeps}
use Rattle.table_steps.proofs.pass.TablePass.look_waiting.Goals as goal

pub load-requires-clause-asks : goal.load-requires-clause-asks
load-requires-clause-asks c =
    let s = c.self.inside.seat in
    let home : Home = c.table.inside.ruled in
    let of : IsOf home s = subst (λ (h : Home). IsOf h s) (sym c.table.view_is) c.self.invariant.1 in
    let may : MayLookWaiting s.view c.args.other = subst (λ (p : Pass). MayLookWaiting p.view c.args.other) (sym c.self.view_is) c.requires.may in
    look_waiting_asks home s c.self.inside.kept c.self.invariant.0 of c.args.other may.there may

pub invariant_of-self : goal.invariant_of-self
invariant_of-self c =
    let s = c.self.inside.seat in
    let k = c.self.inside.kept in
    let home : Home = c.table.inside.ruled in
    let of : IsOf home s = subst (λ (h : Home). IsOf h s) (sym c.table.view_is) c.self.invariant.1 in
    let may : MayLookWaiting s.view c.args.other = subst (λ (p : Pass). MayLookWaiting p.view c.args.other) (sym c.self.view_is) c.requires.may in
    let locked : has_no_lock s.view ≡ false = subst (λ (p : Pass). has_no_lock p.view ≡ false) (sym c.self.view_is) c.requires.locked in (
      look_waiting_keeps home s k c.self.invariant.0 of c.args.other may.there locked c.load.new.seat.view c.load.result c.load.ensures.event,
      subst (λ (h : Home). IsOf h c.load.new.seat) c.table.view_is c.load.ensures.of,
    )

pub returns-clause-view : goal.returns-clause-view
returns-clause-view c =
    let s = c.self.inside.seat in
    let k = c.self.inside.kept in
    let home : Home = c.table.inside.ruled in
    let of : IsOf home s = subst (λ (h : Home). IsOf h s) (sym c.table.view_is) c.self.invariant.1 in
    let may : MayLookWaiting s.view c.args.other = subst (λ (p : Pass). MayLookWaiting p.view c.args.other) (sym c.self.view_is) c.requires.may in
    let locked : has_no_lock s.view ≡ false = subst (λ (p : Pass). has_no_lock p.view ≡ false) (sym c.self.view_is) c.requires.locked in
    subst (λ (p : Pass). c.load.new.seat.view ≡ looked_waiting p.view c.args.other c.load.result) c.self.view_is
    (look_waiting_view home s k c.self.invariant.0 of c.args.other may.there locked c.load.new.seat.view c.load.result c.load.ensures.event)
