use Rattle.begun_runs.proofs.Ending.{begun_run_law}
use Rattle.begun_runs.proofs.Texts.{begun_text_law}
use Rattle.begun_runs.proofs.laws.begun_run.Goals as goal

pub returns : goal.returns
returns c = record { ends = begun_run_law; text = begun_text_law }
