use Rattle.std.proofs.Common.{ℕ}
use Rattle.key_map.specs.Lists.{Every}
use Rattle.index_words.specs.declared.view.View.{View}
use Rattle.snapshot_read.specs.Ways.{IsOnWay}
use Rattle.snapshot_read.proofs.kept_way.Way.take.Given as goal

abbrev pub invariant-loop : goal.invariant-loop
invariant-loop l = (v : View) (t : ℕ) → Every (IsOnWay v t) l.fn.self → Every (IsOnWay v t) l.self
