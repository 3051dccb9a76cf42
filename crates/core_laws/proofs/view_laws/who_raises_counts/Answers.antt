use Rattle.core_laws.proofs.Alone.{others, nothing, alone}
use Rattle.core_laws.proofs.Changers.{changes}
use Rattle.core_laws.proofs.view_laws.who_raises_counts.Goals as goal

pub returns : goal.returns
returns c = record { changes = changes; others = others; nothing = nothing; alone = alone }
