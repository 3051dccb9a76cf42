use Rattle.std.proofs.Common.{[], ◌∷◌}
use Rattle.shared_index.proofs.KeyHomes.{all_kept}
use Rattle.index_tests.proofs.passes.at_once.Goals as goal

pub returns : goal.returns
returns g c =
    let one = c.join.ensures.first in
    let two = c.join.ensures.second in
    all_kept c.args.index.now (c.args.first ∷ c.args.second ∷ []) (c.join.result.0 ∷ c.join.result.1 ∷ []) c.requires (one.0, (two.0, tt)) (λ i. one.1 i ∷ two.1 i ∷ [])
