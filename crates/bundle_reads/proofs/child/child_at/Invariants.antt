use Rattle.table_steps.specs.Passes.{IsSamePass}
use Rattle.bundle_reads.specs.Reads.{HasRead}
use Rattle.bundle_reads.specs.Children.{ComesAlong, number_bound}
use Rattle.bundle_reads.proofs.child.child_at.Given as goal

abbrev pub invariant-along : goal.invariant-along
invariant-along l = ComesAlong l.fn.pass.view l.pass.view l.fn.link l.entry × HasRead l.fn.pass.view l.pass.view × IsSamePass l.fn.pass l.pass

abbrev pub decreases-along : goal.decreases-along
decreases-along l = number_bound l.pass.view.reading.above
