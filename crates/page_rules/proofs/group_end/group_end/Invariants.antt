use Rattle.std.proofs.Common.{◌-◌}
use Rattle.page_rules.specs.GroupEnd.{AreAroundEnd}
use Rattle.page_rules.proofs.group_end.group_end.Given as goal

abbrev pub invariant-loop-inside : goal.invariant-loop-inside
invariant-loop-inside l = AreAroundEnd l.dir l.group l.inside l.outside

abbrev pub decreases-loop-inside : goal.decreases-loop-inside
decreases-loop-inside l = l.outside - l.inside
