use Rattle.sample_laws.proofs.Rows.{rows as worked}
use Rattle.sample_laws.proofs.laws.sample_rows.Goals as goal

pub returns : goal.returns
returns c = record { rows = worked }
