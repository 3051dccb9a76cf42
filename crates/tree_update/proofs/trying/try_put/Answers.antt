use Rattle.tree_update.proofs.Alone.{made_alone}
use Rattle.tree_update.proofs.trying.try_put.Goals as goal

pub returns-clause-alone : goal.returns-clause-alone
returns-clause-alone c = made_alone c.try_with.result c.args.pass.now c.try_with.new.pass c.try_with.ensures.same c.try_with.ensures.alone
