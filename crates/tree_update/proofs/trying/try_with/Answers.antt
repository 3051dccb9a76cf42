use Rattle.std.proofs.Common.{refl}
use Rattle.tree_update.proofs.Ends.{at_once}
use Rattle.tree_update.proofs.trying.try_with.Goals as goal

pub returns-in-Ok-clause-rest : goal.returns-in-Ok-clause-rest
returns-in-Ok-clause-rest c =
    let q = c.try_update.new.pass in at_once q.view q.number c.in-Ok.carried.parted (c.in-Ok.ensures.put refl) c.in-Ok.ensures.ends
