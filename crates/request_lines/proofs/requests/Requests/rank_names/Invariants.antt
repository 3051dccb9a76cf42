use Rattle.std.proofs.Common.{◌≡◌}
use Rattle.request_lines.proofs.requests.Requests.rank_names.Given as goal

abbrev pub invariant-loop-place : goal.invariant-loop-place
invariant-loop-place l = l.self-inside.asked.items ≡ l.initial.self-inside.asked.items
