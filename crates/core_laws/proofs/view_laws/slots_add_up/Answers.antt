use Rattle.core_laws.proofs.SlotSums as sums
use Rattle.core_laws.proofs.view_laws.slots_add_up.Goals as goal

pub returns : goal.returns
returns c = record { sums = λ t right. sums.slots_add_up t right }
