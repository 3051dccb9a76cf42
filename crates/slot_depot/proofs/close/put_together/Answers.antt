use Rattle.std.proofs.Common.{◌≡◌, List, ◌∷◌, [], ◌++◌, arith, ap, sym, ◌∙◌, subst}
use Rattle.std.proofs.lemmas.List.{append_assoc}
use Rattle.key_map.specs.Lists.{Every}
use Rattle.slot_depot.specs.declared.book.Book.{Book}
use Rattle.slot_depot.specs.Depots.{Seated, HoldsBooks, queue_id}
use Rattle.crossbeam_queue.specs.Passes.{view}
use Rattle.slot_depot.proofs.Totals.{every_front}
use Rattle.slot_depot.proofs.Closes.{one_book, more_books}
use Rattle.slot_depot.proofs.Kept.{no_seats}
use Rattle.slot_depot.proofs.close.put_together.Goals as goal

pub loop-seat-init : goal.loop-seat-init
loop-seat-init g c =
    let rest = c.pop.new.self.items in
    let first = c.in-Some.first in
    let items = c.in-Some.ensures.items in
    let up = c.give_up-whole.ensures in (
      up.queue,
      ap (λ (b : Book). b.opened) up.book ∙ up.one.0,
      (every_front (λ (s : Seated). s.id ≡ queue_id c.args.queue.now) rest first (subst (Every (λ (s : Seated). s.id ≡ queue_id c.args.queue.now)) items c.requires.of)).0,
      (
        first ∷ [],
        items,
        λ t terms.
            one_book t first _ up.book up.one.0 up.one.1
            (every_front (λ (s : Seated). s.book.terms ≡ t) rest first (subst (Every (λ (s : Seated). s.book.terms ≡ t)) items terms)).1,
      ),
    )

pub put_in-requires-clause-of : goal.put_in-requires-clause-of
put_in-requires-clause-of g c =
    (every_front (λ (s : Seated). s.id ≡ queue_id c.args.queue.now) c.pop-in-loop-seat.new.self.items c.in-Some-pop.seat
    (subst (Every (λ (s : Seated). s.id ≡ queue_id c.args.queue.now)) c.in-Some-pop.ensures.items c.loop-seat.invariant.2)).1

pub loop-seat-preserved : goal.loop-seat-preserved
loop-seat-preserved g c =
    let kept = c.loop-seat.invariant in
    let rest = c.pop-in-loop-seat.new.self.items in
    let seat = c.in-Some-pop.seat in
    let items = c.in-Some-pop.ensures.items in
    let put = c.put_in.ensures in (
      put.queue,
      ap (λ (b : Book). b.opened) put.book ∙ kept.1,
      (every_front (λ (s : Seated). s.id ≡ queue_id c.args.queue.now) rest seat (subst (Every (λ (s : Seated). s.id ≡ queue_id c.args.queue.now)) items kept.2)).0,
      (
        seat ∷ kept.3.0,
        kept.3.1 ∙ ap (λ l. l ++ kept.3.0) items ∙ append_assoc rest (seat ∷ []) kept.3.0,
        λ t terms. more_books t kept.3.0 seat _ _ put.book put.one (kept.3.2 t terms),
      ),
    )

pub returns-clause-books : goal.returns-clause-books
returns-clause-books g c t terms =
    let kept = c.loop-seat.invariant in
    let none = no_seats c.loop-seat.seats.items (omega (arith, c.loop-seat.seats.ok, c.in_default-pop.ensures.cases.0)) in
    subst (λ (ss : List Seated). HoldsBooks t ss (view c.loop-seat.whole)) (sym (kept.3.1 ∙ ap (λ l. l ++ kept.3.0) none)) (kept.3.2 t terms)
