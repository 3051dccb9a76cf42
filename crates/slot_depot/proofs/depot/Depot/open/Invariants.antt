use Rattle.std.proofs.Common.{◌≡◌, ◌-◌, ◌≤◌, true, length}
use Rattle.std.specs.Vec.{vec_capacity}
use Rattle.key_map.specs.Lists.{Every}
use Rattle.crossbeam_queue.specs.Passes.{view, IsPassOf}
use Rattle.slot_depot.specs.Books.{terms_for, empty_book}
use Rattle.slot_depot.specs.Depots.{IsDealt}
use Rattle.slot_depot.proofs.depot.Depot.open.Given as goal

abbrev pub ghosts-open_books : goal.ghosts-open_books
ghosts-open_books g a = record { terms = terms_for (g.H.Homed.home a.like.now) a.room a.seats }

abbrev pub invariant-loop : goal.invariant-loop
invariant-loop g l =
    let terms = terms_for (g.H.Homed.home l.like) l.fn.room l.fn.seats in
    IsPassOf l.queue l.keeper
    × (view l.keeper ≡ empty_book true terms (l.fn.seats - l.counter))
    × Every (IsDealt l.keeper.table_id terms) l.dealt.items
    × (length l.dealt.items ≡ l.counter)
    × (l.fn.seats ≤ vec_capacity l.dealt)
    × (l.counter ≤ l.fn.seats)
