use Rattle.table_steps.proofs.ReadSections.{at_rest, is_outside_again}
use Rattle.table_steps.proofs.pass.TablePass.close_section.Goals as goal

pub announce-requires : goal.announce-requires
announce-requires c = record { can = record { own = c.number_fact.ensures; even = c.leave.ensures.outside.even } }

pub returns-clause-view : goal.returns-clause-view
returns-clause-view c =
    is_outside_again c.args.self.now.view c.leave.new.self.view c.announce.new.self.view c.leave.ensures.view c.leave.ensures.outside c.announce.ensures.view

pub returns-clause-rest : goal.returns-clause-rest
returns-clause-rest c =
    at_rest c.args.self.now.view c.leave.new.self.view c.announce.new.self.view c.leave.ensures.view c.leave.ensures.outside c.announce.ensures.view
