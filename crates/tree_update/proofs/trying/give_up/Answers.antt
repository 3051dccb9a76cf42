use Rattle.tree_update.proofs.CallSteps.{left_stays}
use Rattle.tree_update.proofs.trying.give_up.Goals as goal

pub returns-clause-stays : goal.returns-clause-stays
returns-clause-stays c =
    left_stays c.args.pass.now.view c.close_section.new.self.view c.close_section.ensures.view
