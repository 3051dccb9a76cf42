use Rattle.std.proofs.Common.{◌≡◌, ℕ, List, ◌++◌, length, map}
use Rattle.std.specs.Borrow.{Bor}
use Rattle.request_lines.specs.CheckInput.{text_lines}
use Rattle.replay_check.proofs.texts.cut.Given as goal

-- the lines so far, and those that are left
abbrev pub invariant-loop-left : goal.invariant-loop-left
invariant-loop-left l = map (λ (line : Bor (List ℕ)). line.now) l.lines.items ++ text_lines l.left ≡ text_lines l.text

abbrev pub decreases-loop-left : goal.decreases-loop-left
decreases-loop-left l = length l.left
