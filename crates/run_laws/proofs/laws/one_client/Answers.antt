use Rattle.run_laws.proofs.OneRun.{alone_law, one_run as just_one}
use Rattle.run_laws.proofs.laws.one_client.Goals as goal

pub returns : goal.returns
returns c = record { alone = alone_law; one_run = just_one }
