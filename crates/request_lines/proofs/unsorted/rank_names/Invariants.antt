use Rattle.std.proofs.Common.{◌≡◌}
use Rattle.request_lines.proofs.unsorted.rank_names.Given as goal

abbrev pub invariant-loop-place : goal.invariant-loop-place
invariant-loop-place l = l.parts ≡ l.initial.parts
