use Rattle.std.proofs.Common.{length}
use Rattle.core_rule.proofs.opening.+add_passes.Given as goal

abbrev pub decreases-add_passes : goal.decreases-add_passes
decreases-add_passes l = length l.sizes.now
