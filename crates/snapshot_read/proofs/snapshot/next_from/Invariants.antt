use Rattle.table_steps.specs.Passes.{IsSamePass}
use Rattle.bundle_reads.specs.Reads.{HasRead}
use Rattle.snapshot_read.specs.Snapshots.{IsReading}
use Rattle.snapshot_read.proofs.snapshot.next_from.Given as goal

abbrev pub invariant-tries : goal.invariant-tries
invariant-tries g l = HasRead l.fn.pass.view l.pass.view × IsSamePass l.fn.pass l.pass × IsReading l.pass.view
