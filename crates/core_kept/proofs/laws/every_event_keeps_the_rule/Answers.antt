use Rattle.core_kept.proofs.StepLaw.{keeps}
use Rattle.core_kept.proofs.laws.every_event_keeps_the_rule.Goals as goal

pub returns : goal.returns
returns c = record { keeps = keeps }
