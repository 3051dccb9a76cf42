use Rattle.std.proofs.Common.{refl, ap, ◌∙◌, sym, subst}
use Rattle.index_words.specs.declared.layout.Layout.{Layout}
use Rattle.index_words.specs.declared.word.Word.TheVariants.{Stamp}
use Rattle.atomic_table.specs.Table.{Splits}
use Rattle.core_events.specs.Openings.{made_left, made_right, MayMake}
use Rattle.table_rule.specs.Homes.{Sat, IsOf, IsLiveView}
use Rattle.table_rule.proofs.AskedMoves.{word_within}
use Rattle.table_rule.proofs.Happens.{holds}
use Rattle.table_rule.proofs.SeatMoves.{make_splits, make_left, make_right}
use Rattle.table_rule.proofs.ruled.RuledTable.make.Goals as goal

pub split_seat-made-requires : goal.split_seat-made-requires
split_seat-made-requires g c =
    let t = c.self.inside.table.shared in
    let s = c.seat.inside.seat in
    let z = c.self.inside.layout in
    let of : IsOf (record { id = t.table_id; layout = z }) (record { id = s.table_id; seat = s.id; view = s.me.0 }) = rw (c.self.view_is, c.seat.view_is) c.requires.of in
    let live = c.seat.invariant.1 in
    let given = g.G.Given in
    let may : MayMake s.me.0 given.number given.size = rw (c.requires.number, c.requires.size) (subst (λ (x : Sat). MayMake x.view c.args.number c.args.size.now) (sym c.seat.view_is) c.requires.may) in (
      of.id,
      word_within t.table_id t.key z c.self.invariant.0 c.self.invariant.1 s.table_id s.id s.me Stamp 0 refl refl,
      subst (λ (k : Layout). Splits (holds k) s.id s.me.0 (made_left s.me.0 given.size) (made_right s.me.0 given.number given.size)) (sym c.self.invariant.0) (make_splits s.me.0 given.number given.size may z s.id),
    )

pub invariant_of-seat : goal.invariant_of-seat
invariant_of-seat g c =
    let t = c.self.inside.table.shared in
    let s = c.seat.inside.seat in
    let z = c.self.inside.layout in
    let of : IsOf (record { id = t.table_id; layout = z }) (record { id = s.table_id; seat = s.id; view = s.me.0 }) = rw (c.self.view_is, c.seat.view_is) c.requires.of in
    let live = c.seat.invariant.1 in
    let given = g.G.Given in
    let may : MayMake s.me.0 given.number given.size = rw (c.requires.number, c.requires.size) (subst (λ (x : Sat). MayMake x.view c.args.number c.args.size.now) (sym c.seat.view_is) c.requires.may) in
    let is = c.split_seat-made.ensures.2 in
    (ap (λ m. m.1) is ∙ c.seat.invariant.0, subst IsLiveView (sym (ap (λ m. m.0) is)) (make_left s.me.0 given.number given.size may live))

pub invariant_of-result : goal.invariant_of-result
invariant_of-result g c =
    let t = c.self.inside.table.shared in
    let s = c.seat.inside.seat in
    let z = c.self.inside.layout in
    let of : IsOf (record { id = t.table_id; layout = z }) (record { id = s.table_id; seat = s.id; view = s.me.0 }) = rw (c.self.view_is, c.seat.view_is) c.requires.of in
    let live = c.seat.invariant.1 in
    let given = g.G.Given in
    let may : MayMake s.me.0 given.number given.size = rw (c.requires.number, c.requires.size) (subst (λ (x : Sat). MayMake x.view c.args.number c.args.size.now) (sym c.seat.view_is) c.requires.may) in
    let is = c.split_seat-made.ensures.4 in
    (ap (λ m. m.1) is, subst IsLiveView (sym (ap (λ m. m.0) is)) (make_right s.me.0 given.number given.size may live))
