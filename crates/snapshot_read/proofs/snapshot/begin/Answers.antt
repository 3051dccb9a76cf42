use Rattle.snapshot_read.proofs.Begins.{begins, begun_reads}
use Rattle.snapshot_read.proofs.snapshot.begin.Goals as goal

pub returns-clause-begun : goal.returns-clause-begun
returns-clause-begun c = begins c.args.pass.now c.open_snapshot.new.self.view c.open_snapshot.result c.open_snapshot.ensures.gives

pub returns-clause-reads : goal.returns-clause-reads
returns-clause-reads c = begun_reads c.args.pass.now c.open_snapshot.new.self.view c.open_snapshot.result c.open_snapshot.ensures.gives c.open_snapshot.ensures.inside
