use Rattle.sample_laws.proofs.OwnNames.{own_names as as_alone}
use Rattle.sample_laws.proofs.Summaries.{summaries}
use Rattle.sample_laws.proofs.laws.own_names.Goals as goal

pub returns : goal.returns
returns c = record { alone = as_alone; summary = summaries }
