use Rattle.std.proofs.Common.{◌∙◌, sym}
use Rattle.tree_update.proofs.SettleSteps.{rest_settled}
use Rattle.tree_update.proofs.settle.try_settle.Goals as goal

pub returns-then-is_settled-clause-tried : goal.returns-then-is_settled-clause-tried
returns-then-is_settled-clause-tried c = rest_settled c.args.pass.now.view (sym c.is_settled.ensures ∙ c.if-is_settled.true)
