use Rattle.std.proofs.Common.{◌≡◌, ◌-◌, ◌<◌, true, length}
use Rattle.key_names.specs.Names.{name_at, begins_with}
use Rattle.page_rules.proofs.group_end.around_end.Given as goal

abbrev pub invariant-loop-step : goal.invariant-loop-step
invariant-loop-step l = record {
  below : l.inside < length l.dir;
  begins : begins_with (name_at l.dir l.inside) l.group ≡ true;
  some : 0 < l.step;
}

abbrev pub decreases-loop-step : goal.decreases-loop-step
decreases-loop-step l = length l.dir - l.inside
