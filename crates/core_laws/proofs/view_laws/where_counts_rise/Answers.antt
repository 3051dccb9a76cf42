use Rattle.core_laws.proofs.CountFacts.{other_head, taken_law, tree_not_retired}
use Rattle.core_laws.proofs.Counts.{counts_law}
use Rattle.core_laws.proofs.view_laws.where_counts_rise.Goals as goal

pub returns : goal.returns
returns c = record { counts = counts_law; other_head = other_head; taken = taken_law; not_retired = tree_not_retired }
