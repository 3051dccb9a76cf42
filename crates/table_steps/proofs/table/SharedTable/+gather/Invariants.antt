use Rattle.std.proofs.Common.{length}
use Rattle.table_steps.proofs.table.SharedTable.+gather.Given as goal

abbrev pub decreases-gather : goal.decreases-gather
decreases-gather l = length l.keys.items
