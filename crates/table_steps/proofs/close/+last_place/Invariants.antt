use Rattle.std.proofs.Common.{length}
use Rattle.table_steps.proofs.close.+last_place.Given as goal

abbrev pub decreases-last_place : goal.decreases-last_place
decreases-last_place l = length l.keys.now
