-- The nodes of a plan.
use Rattle.std.specs.Prelude.{ℕ, ◌≤◌}
use Rattle.key_map.specs.Lists.{count}
use Rattle.core_updates.specs.declared.plan.Plan.{Plan}
use Rattle.core_updates.specs.Plans.{locks_of}

-- the plan's nodes are different ones
abbrev pub LocksOnce : Plan → Type 0
LocksOnce plan = (k : ℕ) → count k (locks_of plan) ≤ 1
