-- What the threads at a depot leave.
use Rattle.std.specs.Prelude.{◌≡◌, ℕ, ◌<◌, List, length, slice_index_or}
use Rattle.slot_depot.specs.Depots.{Seated, IsSameSeat}
use Rattle.depot_runs.specs.declared.run.Worked.{Worked}

abbrev pub seat_of : Worked → Seated
seat_of left = left.seat

-- each seat is still what it was, with more in its book
pub record AreLeft (seats : List Seated) (left : List Worked) : Type 0 where
  pub one_each : length left ≡ length seats
  pub each : (i : ℕ) (s : Seated) (d : Worked) → i < length seats → IsSameSeat (slice_index_or seats i s) (seat_of (slice_index_or left i d))
