use Rattle.std.proofs.Common.{◌≡◌, length}
use Rattle.request_lines.proofs.rounds.empty_lists.Given as goal

abbrev pub invariant-loop : goal.invariant-loop
invariant-loop l = length l.said.items ≡ l.counter
