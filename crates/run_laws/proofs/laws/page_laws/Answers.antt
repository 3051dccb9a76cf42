use Rattle.run_laws.proofs.PageLaws.{group_law, no_group_law, start_after_law, no_start_after_law, truncated_law}
use Rattle.run_laws.proofs.laws.page_laws.Goals as goal

pub returns : goal.returns
returns c = record { group = group_law; no_group = no_group_law; start_after = start_after_law; no_start_after = no_start_after_law; truncated = truncated_law }
