use Rattle.std.proofs.Common.{length}
use Rattle.std.specs.Prelude.{⊤}
use Rattle.request_lines.proofs.leads.common_front.Given as goal

abbrev pub invariant-loop-front : goal.invariant-loop-front
invariant-loop-front l = ⊤

abbrev pub decreases-loop-front : goal.decreases-loop-front
decreases-loop-front l = length l.front
