use Rattle.std.proofs.Common.{◌≡◌, ℕ, ◌<◌, Option, None, refl, ◌∙◌, sym, subst}
use Rattle.core_laws.specs.ViewNeeds.{MayLoadStamp}
use Rattle.table_rule.specs.Homes.{Home, IsOf}
use Rattle.table_steps.specs.Kept.{Keeps}
use Rattle.table_steps.specs.Passes.{Pass, Inside}
use Rattle.table_steps.specs.Stamps.{with_seen, HasSeen, ReadsNow}
use Rattle.table_steps.proofs.StampSteps.{load_asks, load_opened, stamp_inside, stamp_keeps, stamp_reads, stamp_seen, stamp_unread}
use Rattle.table_steps.proofs.pass.TablePass.load_stamp.Goals as goal

pub load-requires-clause-asks : goal.load-requires-clause-asks
load-requires-clause-asks c =
    let s = c.self.inside.seat in
    let k = c.self.inside.kept in
    let home : Home = c.table.inside.ruled in
    let keeps = c.self.invariant.0 in
    let of : IsOf home s = subst (λ (h : Home). IsOf h s) (sym c.table.view_is) c.self.invariant.1 in
    let may : MayLoadStamp s.view = subst (λ (p : Pass). MayLoadStamp p.view) (sym c.self.view_is) c.requires.may in
    load_asks home s k keeps of may

pub invariant_of-self : goal.invariant_of-self
invariant_of-self c =
    let s = c.self.inside.seat in
    let k = c.self.inside.kept in
    let home : Home = c.table.inside.ruled in
    let keeps = c.self.invariant.0 in
    let of : IsOf home s = subst (λ (h : Home). IsOf h s) (sym c.table.view_is) c.self.invariant.1 in
    let may : MayLoadStamp s.view = subst (λ (p : Pass). MayLoadStamp p.view) (sym c.self.view_is) c.requires.may in
    let none : None ≡ k.opened = sym may.closed ∙ keeps.opened in (
      subst (λ (o : Option ℕ). Keeps c.load.new.seat.view (record k { opened = o })) none (stamp_keeps home s k keeps of 0 c.load.new.seat.view c.load.result c.load.ensures.event None (load_opened home s k keeps of 0 c.load.new.seat.view c.load.result c.load.ensures.event refl may.closed)),
      subst (λ (h : Home). IsOf h c.load.new.seat) c.table.view_is c.load.ensures.of,
    )

pub returns-clause-seen : goal.returns-clause-seen
returns-clause-seen c =
    let s = c.self.inside.seat in
    let k = c.self.inside.kept in
    let home : Home = c.table.inside.ruled in
    let keeps = c.self.invariant.0 in
    let of : IsOf home s = subst (λ (h : Home). IsOf h s) (sym c.table.view_is) c.self.invariant.1 in
    subst (λ (p : Pass). HasSeen p.view c.load.result c.load.new.seat.view) c.self.view_is (stamp_seen home s k keeps of 0 c.load.new.seat.view c.load.result c.load.ensures.event)

pub returns-clause-reads : goal.returns-clause-reads
returns-clause-reads c =
    let s = c.self.inside.seat in
    let k = c.self.inside.kept in
    let home : Home = c.table.inside.ruled in
    let keeps = c.self.invariant.0 in
    let of : IsOf home s = subst (λ (h : Home). IsOf h s) (sym c.table.view_is) c.self.invariant.1 in
    subst (λ (p : Pass). 0 < p.view.announced → ReadsNow p.view 0 c.load.result c.load.new.seat.view) c.self.view_is (stamp_reads home s k keeps of 0 c.load.new.seat.view c.load.result c.load.ensures.event)

pub returns-clause-unread : goal.returns-clause-unread
returns-clause-unread c =
    let s = c.self.inside.seat in
    let k = c.self.inside.kept in
    let home : Home = c.table.inside.ruled in
    let keeps = c.self.invariant.0 in
    let of : IsOf home s = subst (λ (h : Home). IsOf h s) (sym c.table.view_is) c.self.invariant.1 in
    subst (λ (p : Pass). p.view.announced ≡ 0 → c.load.new.seat.view ≡ with_seen c.load.new.seat.view.history.seen p.view) c.self.view_is (stamp_unread home s k keeps of 0 c.load.new.seat.view c.load.result c.load.ensures.event refl)

pub returns-clause-inside : goal.returns-clause-inside
returns-clause-inside c =
    let s = c.self.inside.seat in
    let k = c.self.inside.kept in
    let home : Home = c.table.inside.ruled in
    let keeps = c.self.invariant.0 in
    let of : IsOf home s = subst (λ (h : Home). IsOf h s) (sym c.table.view_is) c.self.invariant.1 in
    subst (λ (p : Pass). Inside p.view → Inside c.load.new.seat.view) c.self.view_is (stamp_inside home s k keeps of 0 c.load.new.seat.view c.load.result c.load.ensures.event)
