use Rattle.std.proofs.Common.{◌≡◌}
use Rattle.table_steps.specs.Passes.{IsSamePass}
use Rattle.bundle_reads.specs.Reads.{HasRead}
use Rattle.snapshot_read.specs.Ways.{Covers, IsOnWay, keys_left}
use Rattle.snapshot_read.proofs.search.look_from.Given as goal

abbrev pub invariant-down : goal.invariant-down
invariant-down l =
    HasRead l.fn.pass.view l.pass.view × (l.pass.view.counts.waits ≡ l.fn.pass.view.counts.waits) × IsSamePass l.fn.pass l.pass
    × IsOnWay l.fn.pass.view l.fn.at l.search × Covers l.fn.key l.search

abbrev pub decreases-down : goal.decreases-down
decreases-down l = keys_left l.search
