use Rattle.core_kept.proofs.StepLaw.{rule_after}
use Rattle.core_kept.proofs.StepSearches.{kind_searches}
use Rattle.core_kept.proofs.RaiseSearches.{raise_searches}
use Rattle.core_kept.proofs.StepTurns.{turns_after}
use Rattle.core_kept.proofs.RaiseOwes.{owes_law}
use Rattle.core_kept.proofs.laws.kinds_keep_the_rule.Goals as goal

pub returns : goal.returns
returns c = record { rule = rule_after; searches = record { stays = kind_searches; raise = raise_searches }; turns = turns_after; owes = owes_law }
