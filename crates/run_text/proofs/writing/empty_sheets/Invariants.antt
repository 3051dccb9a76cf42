use Rattle.std.proofs.Common.{◌≡◌, length}
use Rattle.run_text.proofs.writing.empty_sheets.Given as goal

abbrev pub invariant-loop : goal.invariant-loop
invariant-loop l = length l.sheets.items ≡ l.counter
