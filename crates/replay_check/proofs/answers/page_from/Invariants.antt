use Rattle.std.proofs.Common.{◌≡◌}
use Rattle.std.specs.Option.{option_copied}
use Rattle.page_rules.specs.Cursor.{IsOnWay, look_ups_left}
use Rattle.replay_check.proofs.answers.page_from.Given as goal

abbrev pub invariant-loop-rank : goal.invariant-loop-rank
invariant-loop-rank l = record {
  dir : l.cursor.dir ≡ l.dir;
  query : l.cursor.query ≡ l.query;
  on_way : IsOnWay l.cursor (option_copied l.point) l.map;
}

abbrev pub decreases-loop-rank : goal.decreases-loop-rank
decreases-loop-rank l = look_ups_left l.cursor
