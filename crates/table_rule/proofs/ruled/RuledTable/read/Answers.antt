use Rattle.std.proofs.Common.{◌≡◌, ℕ, true, refl, sym, subst}
use Rattle.index_words.specs.declared.layout.Layout.{Layout}
use Rattle.index_words.specs.Words.{is_there}
use Rattle.atomic_table.specs.Table.{Allows}
use Rattle.table_rule.specs.Homes.{Home, IsOf}
use Rattle.table_rule.specs.Running.{Holds}
use Rattle.table_rule.proofs.AskedMoves.{word_within}
use Rattle.table_rule.proofs.Happens.{holds}
use Rattle.table_rule.proofs.SeatMoves.{know_allowed, tells}
use Rattle.table_rule.proofs.ruled.RuledTable.read.Goals as goal

pub load-requires : goal.load-requires
load-requires c =
    let t = c.self.inside.table.shared in
    let s = c.seat.inside.seat in
    let z = c.self.inside.layout in
    let at : ℕ = c.address-at.result in
    let of : IsOf (record { id = t.table_id; layout = z }) (record { id = s.table_id; seat = s.id; view = s.me.0 }) = rw (c.self.view_is, c.seat.view_is) c.requires.of in
    let there : is_there z c.args.word ≡ true = subst (λ (h : Home). is_there h.layout c.args.word ≡ true) (sym c.self.view_is) c.requires.there in (
      of.id,
      word_within t.table_id t.key z c.self.invariant.0 c.self.invariant.1 s.table_id s.id s.me c.args.word at there c.address-at.ensures.number,
      subst (λ (k : Layout). Allows (holds k) t.table_id.slots s.id s.me at (λ x. x) (tells at s.me)) (sym c.self.invariant.0)
          (know_allowed z t.table_id.slots s.id s.me at (tells at s.me) (λ n stands is. (refl, subst (λ (k : Layout). Holds k s.me.0 at n) (sym of.layout) (record { stands = stands; found = is })))),
    )
