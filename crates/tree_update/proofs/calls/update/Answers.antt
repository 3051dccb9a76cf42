use Rattle.tree_update.proofs.CallSteps.{unlooked_nothing}
use Rattle.tree_update.proofs.CallsMade.{refused_spent, refused_slots, accepted_spent, accepted_slots}
use Rattle.tree_update.proofs.calls.update.Goals as goal

pub returns-in-Some-clause-spent : goal.returns-in-Some-clause-spent
returns-in-Some-clause-spent g c = refused_spent c.args.pass.now.view c.in-Some.error c.in-Some.ensures

pub returns-in-Some-clause-no_slot : goal.returns-in-Some-clause-no_slot
returns-in-Some-clause-no_slot g c = refused_slots c.args.pass.now.view c.in-Some.error c.in-Some.ensures

pub returns-in-None-clause-spent : goal.returns-in-None-clause-spent
returns-in-None-clause-spent g c = accepted_spent c.args.pass.now.view c.in-None.ensures _

pub returns-in-None-clause-no_slot : goal.returns-in-None-clause-no_slot
returns-in-None-clause-no_slot g c = accepted_slots c.args.pass.now.view c.in-None.ensures _

pub returns-in-Some-clause-unlooked : goal.returns-in-Some-clause-unlooked
returns-in-Some-clause-unlooked g c = λ plain put. unlooked_nothing c.args.pass.now.view
