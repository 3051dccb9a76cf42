use Rattle.snapshot_read.specs.Snapshots.{IsReading}
use Rattle.snapshot_read.specs.Ways.{IsKeptWay}
use Rattle.listing_times.proofs.work.list_on.Given as goal

-- the snapshot stays open, and what is kept is on the way down its tree
abbrev pub invariant-pairs : goal.invariant-pairs
invariant-pairs g l = IsReading l.pass.view × IsKeptWay l.pass.view l.way
