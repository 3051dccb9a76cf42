use Rattle.snapshot_read.proofs.Alone.{known_alone}
use Rattle.snapshot_read.proofs.snapshot.try_next_on.Goals as goal

pub returns-clause-alone : goal.returns-clause-alone
returns-clause-alone c = known_alone c.look_on.result c.args.pass.now c.look_on.new.pass c.look_on.ensures.same c.look_on.ensures.alone
