use Rattle.update_try.proofs.PruneWalks.{place_same, update_same}
use Rattle.update_try.proofs.pruning.least_of_all.Goals as goal

pub returns-then-own-clause-place : goal.returns-then-own-clause-place
returns-then-own-clause-place c = place_same c.args.pass.now.view

pub returns-then-own-clause-update : goal.returns-then-own-clause-update
returns-then-own-clause-update c = update_same c.args.pass.now.view
