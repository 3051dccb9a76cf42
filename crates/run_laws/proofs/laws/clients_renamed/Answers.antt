use Rattle.run_laws.proofs.Renamed.{renamed_law}
use Rattle.run_laws.proofs.laws.clients_renamed.Goals as goal

pub returns : goal.returns
returns c = record { renamed = renamed_law }
