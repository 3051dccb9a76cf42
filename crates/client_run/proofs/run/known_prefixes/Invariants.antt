use Rattle.std.proofs.Common.{◌≡◌}
use Rattle.client_run.proofs.run.known_prefixes.Given as goal

abbrev pub invariant-loop-asked : goal.invariant-loop-asked
invariant-loop-asked l = l.known ≡ l.dir
