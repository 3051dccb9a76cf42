use Rattle.std.proofs.Common.{◌≡◌}
use Rattle.request_lines.specs.Generated.{first_names}
use Rattle.request_lines.proofs.generated.Client.of.Given as goal

abbrev pub invariant-loop-i : goal.invariant-loop-i
invariant-loop-i l = l.names.items ≡ first_names l.client l.i
