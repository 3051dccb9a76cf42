-- All seats of a depot: as they were dealt, after each was used, and put together.
use Rattle.std.proofs.Common.{◌≡◌, ℕ, suc, ◌<◌, List, [], ◌∷◌, length, get_or, refl, ap, ◌∙◌, sym, arith}
use Rattle.key_map.specs.Lists.{Every}
use Rattle.atomic_table.specs.Seated.{TableId}
use Rattle.slot_depot.specs.declared.book.Terms.{Terms}
use Rattle.slot_depot.specs.declared.book.Book.{Book}
use Rattle.slot_depot.specs.Depots.{Opened, Seated, IsSeatWith, IsSameSeat, IsDealt, AreAllSeats, HoldsBooks, StandsForAll}

every_kept : (id : TableId) (t : Terms) (seats back : List Seated) → length back ≡ length seats
    → ((i : ℕ) (s : Seated) → i < length seats → IsSameSeat (get_or seats i s) (get_or back i s)) → Every (IsSeatWith id t) seats → Every (IsSeatWith id t) back
every_kept id t [] [] long same all = tt
every_kept id t [] (b ∷ back) long same all = absurd (omega (arith, long))
every_kept id t (s ∷ seats) [] long same all = absurd (omega (arith, long))
every_kept id t (s ∷ seats) (b ∷ back) long same all =
    let here = same 0 s (omega arith) in
    (record { id_is = here.id ∙ all.0.id_is; terms_are = here.terms ∙ all.0.terms_are }, every_kept id t seats back (omega (arith, long)) (λ i d low. same (suc i) d (omega (arith, low))) all.1)

pub all_kept : (depot : Opened) (seats back : List Seated) → AreAllSeats depot seats → length back ≡ length seats
    → ((i : ℕ) (s : Seated) → i < length seats → IsSameSeat (get_or seats i s) (get_or back i s)) → AreAllSeats depot back
all_kept depot seats back all long same =
    record {
      terms = all.terms;
      room = all.room;
      of = every_kept depot.id all.terms seats back long same all.of;
      some = omega (arith, long, all.some);
      all = long ∙ all.all;
    }

every_dealt : (id : TableId) (t : Terms) (seats : List Seated) → Every (IsDealt id t) seats → Every (IsSeatWith id t) seats
every_dealt id t [] all = tt
every_dealt id t (s ∷ seats) all = (record { id_is = all.0.id_is; terms_are = ap (λ (b : Book). b.terms) all.0.book_is }, every_dealt id t seats all.1)

pub all_dealt : (depot : Opened) (t : Terms) (seats : List Seated) → t.room ≡ depot.room → 0 < t.seats → length seats ≡ t.seats → Every (IsDealt depot.id t) seats → AreAllSeats depot seats
all_dealt depot t seats room some long all =
    record { terms = t; room = room; of = every_dealt depot.id t seats all; some = omega (arith, some, long); all = long }

pub their_ids : (id : TableId) (t : Terms) (seats : List Seated) → Every (IsSeatWith id t) seats → Every (λ (s : Seated). s.id ≡ id) seats
their_ids id t [] all = tt
their_ids id t (s ∷ seats) all = (all.0.id_is, their_ids id t seats all.1)

pub their_terms : (id : TableId) (t : Terms) (seats : List Seated) → Every (IsSeatWith id t) seats → Every (λ (s : Seated). s.book.terms ≡ t) seats
their_terms id t [] all = tt
their_terms id t (s ∷ seats) all = (all.0.terms_are, their_terms id t seats all.1)

-- the home that all seats have is that of their terms
pub their_home : (id : TableId) (t : Terms) (seats : List Seated) (home : List ℕ) → 0 < length seats → Every (IsSeatWith id t) seats → Every (λ (s : Seated). s.book.terms.home ≡ home) seats → t.home ≡ home
their_home id t [] home some all homes = absurd (omega (arith, some))
their_home id t (s ∷ seats) home some all homes = ap (λ (u : Terms). u.home) (sym all.0.terms_are) ∙ homes.0

pub stands_for : (depot : Opened) (seats : List Seated) (b : Book) (all : AreAllSeats depot seats) → HoldsBooks all.terms seats b → StandsForAll b
stands_for depot seats b all holds =
    record {
      opened = holds.opened;
      some = omega (arith, holds.shares, all.some);
      shares = holds.shares ∙ all.all ∙ ap (λ (t : Terms). t.seats) (sym holds.terms_are);
    }

pub no_seats : (seats : List Seated) → length seats ≡ 0 → seats ≡ []
no_seats [] none = refl
no_seats (s ∷ seats) none = absurd (omega (arith, none))
