use Rattle.snapshot_read.proofs.Alone.{known_alone}
use Rattle.snapshot_read.proofs.snapshot.try_next_from.Goals as goal

pub returns-clause-alone : goal.returns-clause-alone
returns-clause-alone c = known_alone c.look_from.result c.args.pass.now c.look_from.new.pass c.look_from.ensures.same c.look_from.ensures.alone
