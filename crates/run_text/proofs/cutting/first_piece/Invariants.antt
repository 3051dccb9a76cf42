use Rattle.std.proofs.Common.{◌≡◌}
use Rattle.run_text.proofs.cutting.first_piece.Given as goal

abbrev pub invariant-loop-placed : goal.invariant-loop-placed
invariant-loop-placed l = l.first.count ≡ l.placed-index
