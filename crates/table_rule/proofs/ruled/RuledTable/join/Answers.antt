use Rattle.std.proofs.Common.{◌≡◌, refl, ap, ◌∙◌, sym, subst}
use Rattle.index_words.specs.declared.layout.Layout.{Layout}
use Rattle.index_words.specs.declared.word.Word.TheVariants.{Stamp}
use Rattle.atomic_table.specs.Table.{Joins, Allows}
use Rattle.core_events.specs.Moves.{joined_with}
use Rattle.index_words.specs.Views.{spent_view}
use Rattle.core_laws.specs.ViewNeeds.{MayJoin}
use Rattle.table_rule.specs.Homes.{Home, Sat, IsOf}
use Rattle.table_rule.specs.Running.{Stands}
use Rattle.table_rule.specs.Seats.{Join}
use Rattle.table_rule.proofs.AskedMoves.{word_within}
use Rattle.table_rule.proofs.Happens.{holds}
use Rattle.table_rule.proofs.SeatMoves.{join_happened, join_joins, know_allowed, knows}
use Rattle.table_rule.proofs.ruled.RuledTable.join.Goals as goal

pub join_seat-requires : goal.join_seat-requires
join_seat-requires c =
    let t = c.self.inside.table.shared in
    let s = c.seat.inside.seat in
    let z = c.self.inside.layout in
    let of : IsOf (record { id = t.table_id; layout = z }) (record { id = s.table_id; seat = s.id; view = s.me.0 }) = rw (c.self.view_is, c.seat.view_is) c.requires.of in
    let live = c.seat.invariant.1 in
    let o = c.other.inside.seat in
    let other_of : IsOf (record { id = t.table_id; layout = z }) (record { id = o.table_id; seat = o.id; view = o.me.0 }) = rw (c.self.view_is, c.other.view_is) c.requires.other_of in
    let may : MayJoin s.me.0 o.me.0 = subst (λ (x : Sat). MayJoin x.view o.me.0) (sym c.seat.view_is) (subst (λ (x : Sat). MayJoin c.args.seat.now.view x.view) (sym c.other.view_is) c.requires.may) in (
      of.id,
      other_of.id,
      c.other.invariant.0,
      word_within t.table_id t.key z c.self.invariant.0 c.self.invariant.1 s.table_id s.id s.me Stamp 0 refl refl,
      subst (λ (k : Layout). Joins (holds k) s.id s.me.0 o.id o.me.0 (joined_with s.me.0 o.me.0) spent_view) (sym c.self.invariant.0) (join_joins z s.me.0 o.me.0 may s.id o.id),
    )

pub load-requires : goal.load-requires
load-requires c =
    let t = c.self.inside.table.shared in
    let s = c.seat.inside.seat in
    let z = c.self.inside.layout in
    let of : IsOf (record { id = t.table_id; layout = z }) (record { id = s.table_id; seat = s.id; view = s.me.0 }) = rw (c.self.view_is, c.seat.view_is) c.requires.of in
    let live = c.seat.invariant.1 in
    let n = c.join_seat.new.seat in
    let is = c.join_seat.ensures in
    let laid : n.me.0.layout ≡ z = ap (λ m. m.0.layout) is.2 ∙ of.layout in (
      is.0 ∙ of.id,
      word_within t.table_id t.key z c.self.invariant.0 c.self.invariant.1 s.table_id s.id s.me Stamp 0 refl refl,
      subst (λ (k : Layout). Allows (holds k) t.table_id.slots n.id n.me 0 (λ x. x) (knows n.me)) (sym c.self.invariant.0)
          (know_allowed z t.table_id.slots n.id n.me 0 (knows n.me) (λ x stands is. (refl, subst (λ (k : Layout). Stands k n.me.0) (sym laid) stands))),
    )

pub returns-clause-event : goal.returns-clause-event
returns-clause-event c =
    let s = c.seat.inside.seat in
    let o = c.other.inside.seat in
    let z = c.self.inside.layout in
    let may : MayJoin s.me.0 o.me.0 = subst (λ (x : Sat). MayJoin x.view o.me.0) (sym c.seat.view_is) (subst (λ (x : Sat). MayJoin c.args.seat.now.view x.view) (sym c.other.view_is) c.requires.may) in
    let w = c.load.new.seat.me.0 in
    let is : w ≡ joined_with s.me.0 o.me.0 = ap (λ m. m.0) c.load.ensures.2.0 ∙ ap (λ m. m.0) c.join_seat.ensures.2 in
    subst (λ (h : Home). Join h.layout c.args.seat.now.view c.args.other.view w) c.self.view_is
    (subst (λ (x : Sat). Join z x.view c.args.other.view w) c.seat.view_is
    (subst (λ (x : Sat). Join z s.me.0 x.view w) c.other.view_is (subst (Join z s.me.0 o.me.0) (sym is) (join_happened z s.me.0 o.me.0 may))))
