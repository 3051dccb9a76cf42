use Rattle.std.proofs.Common.{◌-◌, length}
use Rattle.request_lines.proofs.CheckInputs.{HasNoneBefore}
use Rattle.request_lines.proofs.check_input.parts.Given as goal

abbrev pub invariant-loop-at : goal.invariant-loop-at
invariant-loop-at l = HasNoneBefore l.bytes l.at

abbrev pub decreases-loop-at : goal.decreases-loop-at
decreases-loop-at l = length l.bytes - l.at
