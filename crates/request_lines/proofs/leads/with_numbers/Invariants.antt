use Rattle.std.proofs.Common.{◌≡◌, map}
use Rattle.std.specs.List.{range_with_len}
use Rattle.request_lines.specs.Interned.{number_in}
use Rattle.request_lines.proofs.leads.with_numbers.Given as goal

abbrev pub invariant-loop-number : goal.invariant-loop-number
invariant-loop-number l = map number_in l.entries.items ≡ range_with_len 0 l.number
