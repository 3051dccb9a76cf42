use Rattle.std.proofs.Common.{Some, refl, sym, subst}
use Rattle.core_laws.specs.ViewNeeds.{MayFix}
use Rattle.table_rule.specs.Homes.{Home, IsOf}
use Rattle.table_steps.specs.Passes.{Pass, Inside}
use Rattle.table_steps.specs.Stamps.{HasSeen, ReadsNow}
use Rattle.table_steps.proofs.StampSteps.{fix_asks, fix_opened, stamp_inside, stamp_keeps, stamp_reads, stamp_seen}
use Rattle.table_steps.proofs.pass.TablePass.fix_stamp.Goals as goal

pub load-number-requires-clause-asks : goal.load-number-requires-clause-asks
load-number-requires-clause-asks c =
    let s = c.self.inside.seat in
    let k = c.self.inside.kept in
    let home : Home = c.table.inside.ruled in
    let keeps = c.self.invariant.0 in
    let of : IsOf home s = subst (λ (h : Home). IsOf h s) (sym c.table.view_is) c.self.invariant.1 in
    let may : MayFix s.view = subst (λ (p : Pass). MayFix p.view) (sym c.self.view_is) c.requires.may in
    fix_asks home s k keeps of may

pub invariant_of-self : goal.invariant_of-self
invariant_of-self c =
    let s = c.self.inside.seat in
    let k = c.self.inside.kept in
    let home : Home = c.table.inside.ruled in
    let keeps = c.self.invariant.0 in
    let of : IsOf home s = subst (λ (h : Home). IsOf h s) (sym c.table.view_is) c.self.invariant.1 in
    let may : MayFix s.view = subst (λ (p : Pass). MayFix p.view) (sym c.self.view_is) c.requires.may in (
      stamp_keeps home s k keeps of 1 c.load-number.new.seat.view c.load-number.result c.load-number.ensures.event (Some c.load-number.result) (fix_opened home s k keeps of 1 c.load-number.new.seat.view c.load-number.result c.load-number.ensures.event refl may.announced),
      subst (λ (h : Home). IsOf h c.load-number.new.seat) c.table.view_is c.load-number.ensures.of,
    )

pub returns-clause-seen : goal.returns-clause-seen
returns-clause-seen c =
    let s = c.self.inside.seat in
    let k = c.self.inside.kept in
    let home : Home = c.table.inside.ruled in
    let keeps = c.self.invariant.0 in
    let of : IsOf home s = subst (λ (h : Home). IsOf h s) (sym c.table.view_is) c.self.invariant.1 in
    subst (λ (p : Pass). HasSeen p.view c.load-number.result c.load-number.new.seat.view) c.self.view_is (stamp_seen home s k keeps of 1 c.load-number.new.seat.view c.load-number.result c.load-number.ensures.event)

pub returns-clause-reads : goal.returns-clause-reads
returns-clause-reads c =
    let s = c.self.inside.seat in
    let k = c.self.inside.kept in
    let home : Home = c.table.inside.ruled in
    let keeps = c.self.invariant.0 in
    let of : IsOf home s = subst (λ (h : Home). IsOf h s) (sym c.table.view_is) c.self.invariant.1 in
    let may : MayFix s.view = subst (λ (p : Pass). MayFix p.view) (sym c.self.view_is) c.requires.may in
    subst (λ (p : Pass). ReadsNow p.view 1 c.load-number.result c.load-number.new.seat.view) c.self.view_is (stamp_reads home s k keeps of 1 c.load-number.new.seat.view c.load-number.result c.load-number.ensures.event may.announced)

pub returns-clause-inside : goal.returns-clause-inside
returns-clause-inside c =
    let s = c.self.inside.seat in
    let k = c.self.inside.kept in
    let home : Home = c.table.inside.ruled in
    let keeps = c.self.invariant.0 in
    let of : IsOf home s = subst (λ (h : Home). IsOf h s) (sym c.table.view_is) c.self.invariant.1 in
    subst (λ (p : Pass). Inside p.view → Inside c.load-number.new.seat.view) c.self.view_is (stamp_inside home s k keeps of 1 c.load-number.new.seat.view c.load-number.result c.load-number.ensures.event)
