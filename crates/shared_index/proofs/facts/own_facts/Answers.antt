use Rattle.shared_index.proofs.OwnFacts.{own_stand, rest_closed}
use Rattle.shared_index.proofs.facts.own_facts.Goals as goal

pub returns-clause-own : goal.returns-clause-own
returns-clause-own c = own_stand c.args.pass.now.view c.args.pass.now.number c.facts.ensures c.number_fact.ensures

pub returns-clause-closed : goal.returns-clause-closed
returns-clause-closed c = rest_closed c.args.pass.now.view c.facts.ensures
