use Rattle.core_laws.proofs.Owners.{owners}
use Rattle.core_laws.proofs.view_laws.who_writes_what.Goals as goal

pub returns : goal.returns
returns c = record { owners = owners }
