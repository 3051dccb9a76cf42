use Rattle.run_laws.proofs.Untouched.{untouched as untouched_law}
use Rattle.run_laws.proofs.laws.untouched_names.Goals as goal

pub returns : goal.returns
returns c = record { untouched = untouched_law }
