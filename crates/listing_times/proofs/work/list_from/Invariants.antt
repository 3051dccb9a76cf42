use Rattle.snapshot_read.specs.Snapshots.{IsReading}
use Rattle.listing_times.proofs.work.list_from.Given as goal

-- the snapshot stays open
abbrev pub invariant-pairs : goal.invariant-pairs
invariant-pairs g l = IsReading l.pass.view
