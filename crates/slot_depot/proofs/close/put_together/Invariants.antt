use Rattle.std.proofs.Common.{◌≡◌, true, List, ◌++◌, length}
use Rattle.key_map.specs.Lists.{Every}
use Rattle.crossbeam_queue.specs.Passes.{view, IsPassOf}
use Rattle.slot_depot.specs.declared.book.Terms.{Terms}
use Rattle.slot_depot.specs.Depots.{Seated, HoldsBooks, queue_id}
use Rattle.slot_depot.proofs.close.put_together.Given as goal

abbrev pub invariant-loop-seat : goal.invariant-loop-seat
invariant-loop-seat g l =
    IsPassOf l.queue l.whole
    × ((view l.whole).opened ≡ true)
    × Every (λ (s : Seated). s.id ≡ queue_id l.fn.queue) l.seats.items
    × ((done : List Seated) × (l.fn.seats.items ≡ l.seats.items ++ done)
    × ((t : Terms) → Every (λ (s : Seated). s.book.terms ≡ t) l.fn.seats.items → HoldsBooks t done (view l.whole)))

abbrev pub decreases-loop-seat : goal.decreases-loop-seat
decreases-loop-seat g l = length l.seats.items
