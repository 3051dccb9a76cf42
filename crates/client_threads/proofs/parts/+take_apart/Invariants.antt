use Rattle.std.proofs.Common.{length}
use Rattle.client_threads.proofs.parts.+take_apart.Given as goal

abbrev pub decreases-take_apart : goal.decreases-take_apart
decreases-take_apart g l = length l.results.items
