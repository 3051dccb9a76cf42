use Rattle.std.proofs.Common.{◌≡◌, []}
use Rattle.slot_depot.specs.Depots.{IsSeatOf, IsSameSeat}
use Rattle.depot_runs.proofs.work.give.Given as goal

abbrev pub invariant-loop : goal.invariant-loop
invariant-loop g l = IsSeatOf l.depot l.seat × IsSameSeat l.initial.seat l.seat × (l.seat.book.terms.home ≡ [])
