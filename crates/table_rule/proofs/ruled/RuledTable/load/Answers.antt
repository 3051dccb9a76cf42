use Rattle.std.proofs.Common.{refl, ◌∙◌, subst}
use Rattle.table_rule.specs.Homes.{Home, Asks, IsOf}
use Rattle.table_rule.proofs.AskedMoves.{move_requires, move_left, move_seat, finds, load_puts}
use Rattle.table_rule.proofs.Happens.{load_moves, IsMove}
use Rattle.table_rule.proofs.ruled.RuledTable.load.Goals as goal

pub load-requires : goal.load-requires
load-requires g c =
    let t = c.self.inside.table.shared in
    let s = c.seat.inside.seat in
    let e = g.E.Asked.event in
    let asks : Asks (record { id = t.table_id; layout = c.self.inside.layout }) (record { id = s.table_id; seat = s.id; view = s.me.0 }) c.args.word e = rw (c.self.view_is, c.seat.view_is) c.requires.asks in
    let is : IsMove e.kind = load_moves e.kind c.requires.kind in
    move_requires t.table_id t.key c.self.inside.layout c.self.invariant.0 c.self.invariant.1 s.table_id s.id s.me e c.args.word asks is t.table_id.slots c.address-at.result (λ n. n) (finds e s.me) (c.address-at.ensures.number) (load_puts c.self.inside.layout s.me.0 e c.requires.kind) (λ n x h. (refl, h))

pub invariant_of-seat : goal.invariant_of-seat
invariant_of-seat g c =
    let t = c.self.inside.table.shared in
    let s = c.seat.inside.seat in
    let e = g.E.Asked.event in
    let asks : Asks (record { id = t.table_id; layout = c.self.inside.layout }) (record { id = s.table_id; seat = s.id; view = s.me.0 }) c.args.word e = rw (c.self.view_is, c.seat.view_is) c.requires.asks in
    let is : IsMove e.kind = load_moves e.kind c.requires.kind in
    let live = c.seat.invariant.1 in
    let bare = c.seat.invariant.0 in
    let went = c.load.ensures in
    let new = c.load.new.seat in
    move_seat t.table_id t.key c.self.inside.layout c.self.invariant.0 c.self.invariant.1 s.table_id s.id s.me e c.args.word asks is live bare (c.load.result) new.me went.2.0 went.2.1

pub returns-clause-of : goal.returns-clause-of
returns-clause-of g c =
    let t = c.self.inside.table.shared in
    let s = c.seat.inside.seat in
    let e = g.E.Asked.event in
    let asks : Asks (record { id = t.table_id; layout = c.self.inside.layout }) (record { id = s.table_id; seat = s.id; view = s.me.0 }) c.args.word e = rw (c.self.view_is, c.seat.view_is) c.requires.asks in
    let is : IsMove e.kind = load_moves e.kind c.requires.kind in
    let live = c.seat.invariant.1 in
    let bare = c.seat.invariant.0 in
    let went = c.load.ensures in
    let new = c.load.new.seat in
    subst (λ (h : Home). IsOf h (record { id = new.table_id; seat = new.id; view = new.me.0 })) c.self.view_is
    (record { id = went.0 ∙ asks.of.id; layout = (move_left t.table_id t.key c.self.inside.layout c.self.invariant.0 c.self.invariant.1 s.table_id s.id s.me e c.args.word asks is live bare (c.load.result) new.me went.2.0 went.2.1).layout })
