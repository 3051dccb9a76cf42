use Rattle.run_laws.proofs.RunRows.{run_rows as worked}
use Rattle.run_laws.proofs.laws.run_rows.Goals as goal

pub returns : goal.returns
returns c = record { rows = worked }
