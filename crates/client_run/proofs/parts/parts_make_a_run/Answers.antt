use Rattle.client_run.proofs.PartRuns.{before_parts, next_part}
use Rattle.client_run.proofs.parts.parts_make_a_run.Goals as goal

pub returns : goal.returns
returns c = record { before = before_parts; next = next_part }
