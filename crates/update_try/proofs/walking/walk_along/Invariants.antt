use Rattle.std.proofs.Common.{◌≡◌, ℕ, ◌+◌, ◌-◌, ◌≤◌, List, length}
use Rattle.plan_laws.specs.Frames.{KeepsTry}
use Rattle.plan_laws.specs.Looks.{KeepsLooks}
use Rattle.plan_laws.specs.Tries.{KeepsTrying}
use Rattle.table_steps.specs.Passes.{IsSamePass}
use Rattle.update_try.specs.Pruning.{KeepsUpdate, KeepsLeast}
use Rattle.update_try.specs.Walked.{StandsOn, HoldsPart, KeepsNexts}
use Rattle.update_try.proofs.walking.walk_along.Given as goal

abbrev pub invariant-along : goal.invariant-along
invariant-along l =
    ((es : List ℕ) × HoldsPart l.pass.view l.fn.at.node l.fn.first es l.entry)
    × ((head : ℕ) × (whole : List ℕ) × StandsOn l.pass.view l.fn.at head l.entry × HoldsPart l.pass.view l.fn.at.node head whole l.entry × (length l.pass.view.held.nexts ≤ length l.fn.pass.view.held.nexts + length whole))
    × KeepsLooks l.fn.pass.view l.pass.view × KeepsNexts l.fn.pass.view l.pass.view × KeepsTry l.fn.pass.view l.pass.view × IsSamePass l.fn.pass l.pass
    × KeepsUpdate l.fn.pass.view l.pass.view × KeepsLeast l.fn.pass.view l.pass.view × (l.pass.view.held.nodes ≡ l.fn.pass.view.held.nodes) × KeepsTrying l.fn.pass.view l.pass.view
    × (l.pass.view.counts ≡ l.fn.pass.view.counts)

abbrev pub decreases-along : goal.decreases-along
decreases-along l = l.pass.view.layout.entries + length l.fn.pass.view.held.nexts - length l.pass.view.held.nexts
