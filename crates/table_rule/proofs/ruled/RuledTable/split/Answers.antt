use Rattle.std.proofs.Common.{◌≡◌, inl, refl, ap, sym, subst}
use Rattle.index_words.specs.declared.layout.Layout.{Layout}
use Rattle.index_words.specs.declared.word.Word.TheVariants.{Stamp}
use Rattle.atomic_table.specs.Table.{Splits}
use Rattle.core_events.specs.Moves.{split_left, split_right}
use Rattle.table_rule.specs.Homes.{Home, Sat, IsOf, IsLiveView}
use Rattle.table_rule.specs.Running.{Stands}
use Rattle.table_rule.specs.Seats.{Split}
use Rattle.table_rule.proofs.AskedMoves.{word_within}
use Rattle.table_rule.proofs.Happens.{holds}
use Rattle.table_rule.proofs.SeatMoves.{split_splits, split_happened, split_live}
use Rattle.table_rule.proofs.ruled.RuledTable.split.Goals as goal

pub split_seat-right-requires : goal.split_seat-right-requires
split_seat-right-requires c =
    let t = c.self.inside.table.shared in
    let s = c.seat.inside.seat in
    let z = c.self.inside.layout in
    let of : IsOf (record { id = t.table_id; layout = z }) (record { id = s.table_id; seat = s.id; view = s.me.0 }) = rw (c.self.view_is, c.seat.view_is) c.requires.of in
    let live = c.seat.invariant.1 in (
      of.id,
      word_within t.table_id t.key z c.self.invariant.0 c.self.invariant.1 s.table_id s.id s.me Stamp 0 refl refl,
      subst (λ (k : Layout). Splits (holds k) s.id s.me.0 (split_left s.me.0 0) (split_right s.me.0 0)) (sym c.self.invariant.0) (split_splits s.me.0 0 (record { live = live.live; few = inl refl }) z s.id),
    )

pub invariant_of-result : goal.invariant_of-result
invariant_of-result c =
    let s = c.seat.inside.seat in
    let live = c.seat.invariant.1 in
    let is = c.split_seat-right.ensures.4 in
    (ap (λ m. m.1) is, subst IsLiveView (sym (ap (λ m. m.0) is)) (split_live s.me.0 0 (record { live = live.live; few = inl refl }) live.stands))

pub returns-clause-event : goal.returns-clause-event
returns-clause-event c =
    let t = c.self.inside.table.shared in
    let s = c.seat.inside.seat in
    let z = c.self.inside.layout in
    let of : IsOf (record { id = t.table_id; layout = z }) (record { id = s.table_id; seat = s.id; view = s.me.0 }) = rw (c.self.view_is, c.seat.view_is) c.requires.of in
    let live = c.seat.invariant.1 in
    let went = c.split_seat-right.ensures in
    let now : (c.split_seat-right.new.seat.me.0 ≡ split_left s.me.0 0) × (c.split_seat-right.result.me.0 ≡ split_right s.me.0 0) = (ap (λ m. m.0) went.2, ap (λ m. m.0) went.4) in
    let stands : Stands z s.me.0 = subst (λ (k : Layout). Stands k s.me.0) of.layout live.stands in
    subst (λ (h : Home). Split h.layout c.args.seat.now.view 0 c.split_seat-right.new.seat.me.0 c.split_seat-right.result.me.0) c.self.view_is
    (subst (λ (x : Sat). Split z x.view 0 c.split_seat-right.new.seat.me.0 c.split_seat-right.result.me.0) c.seat.view_is
    (rw (now.0, now.1) (split_happened s.me.0 0 (record { live = live.live; few = inl refl }) z stands)))
