use Rattle.core_laws.proofs.Falls.{falls_law}
use Rattle.core_laws.proofs.Found.{read_law, stamp_law, bundle_length_law}
use Rattle.core_laws.proofs.OneTree.{one_tree}
use Rattle.core_laws.proofs.view_laws.what_loads_find.Goals as goal

pub returns : goal.returns
returns c = record { reads = read_law; stamp = stamp_law; one_tree = one_tree; bundle_length = bundle_length_law; falls = falls_law }
