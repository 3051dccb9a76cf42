use Rattle.plan_laws.proofs.Prunes.{cut_step, end_cutting, prune_step, keeps_pruned, owned_is_pruned, start_cutting}
use Rattle.plan_laws.proofs.end_laws.bundles_are_pruned.Goals as goal

pub returns : goal.returns
returns c = record { step = prune_step; cutting = cut_step; start = start_cutting; end = end_cutting; keeps = keeps_pruned; owned = owned_is_pruned }
