use Rattle.core_grace.proofs.Progress.{settles_ok}
use Rattle.core_grace.proofs.batch.settle.Goals as goal

pub returns-clause-frees : goal.returns-clause-frees
returns-clause-frees c = settles_ok c.take_or_free.result c.args.passes _ _ c.take_or_free.ensures.ok
