use Rattle.std.proofs.Common.{length}
use Rattle.client_threads.proofs.pooled.+seated.Given as goal

abbrev pub decreases-seated : goal.decreases-seated
decreases-seated l = length l.keys.items
