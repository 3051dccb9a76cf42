use Rattle.begun_runs.proofs.FirstPart.{first_part_law}
use Rattle.begun_runs.proofs.laws.first_part.Goals as goal

pub returns : goal.returns
returns c = record { ends = first_part_law }
