use Rattle.shared_index.proofs.KeyHomes.{fresh_keys}
use Rattle.shared_index.proofs.index.SharedIndex.open.Goals as goal

pub returns-in-Ok-clause-fresh : goal.returns-in-Ok-clause-fresh
returns-in-Ok-clause-fresh c = fresh_keys c.in-Some.layout 0 1 1 c.args.sizes.now c.in-Ok.keys.items c.in-Ok.ensures.views c.in-Ok.ensures.numbers
