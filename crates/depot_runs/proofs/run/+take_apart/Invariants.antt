use Rattle.std.proofs.Common.{length}
use Rattle.depot_runs.proofs.run.+take_apart.Given as goal

abbrev pub decreases-take_apart : goal.decreases-take_apart
decreases-take_apart l = length l.left.items
