use Rattle.std.proofs.Common.{sym, subst}
use Rattle.key_map.specs.Lists.{Every}
use Rattle.snapshot_read.specs.Ways.{IsOnWay}
use Rattle.snapshot_read.proofs.Ways.{at_root, taken}
use Rattle.snapshot_read.proofs.kept_way.Way.take.Goals as goal

pub returns-then-covers-clause-kept : goal.returns-then-covers-clause-kept
returns-then-covers-clause-kept c = λ v t all. (taken (IsOnWay v t) c.loop.self c.pop.new.self c.in-Some.search c.in-Some.ensures (c.loop.invariant v t all)).0

pub returns-then-covers-clause-way : goal.returns-then-covers-clause-way
returns-then-covers-clause-way c = λ v t all. (taken (IsOnWay v t) c.loop.self c.pop.new.self c.in-Some.search c.in-Some.ensures (c.loop.invariant v t all)).1

pub loop-preserved : goal.loop-preserved
loop-preserved c = λ v t all. (taken (IsOnWay v t) c.loop.self c.pop.new.self c.in-Some.search c.in-Some.ensures (c.loop.invariant v t all)).0

pub returns-in_default-clause-kept : goal.returns-in_default-clause-kept
returns-in_default-clause-kept c = λ v t all. subst (Every (IsOnWay v t)) (sym c.in_default.ensures) (c.loop.invariant v t all)

pub returns-in_default-clause-way : goal.returns-in_default-clause-way
returns-in_default-clause-way c = λ v t all. subst (IsOnWay v t) (sym c.root.ensures) (at_root v t)

pub returns-clause-way : goal.returns-clause-way
returns-clause-way c = λ v t all. subst (IsOnWay v t) (sym c.root-2.ensures) (at_root v t)
