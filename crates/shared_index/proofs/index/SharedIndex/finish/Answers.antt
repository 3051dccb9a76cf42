use Rattle.std.proofs.Common.{sym, subst}
use Rattle.table_rule.specs.Homes.{Home}
use Rattle.shared_index.specs.Keys.{AreAllKeys}
use Rattle.shared_index.proofs.KeyHomes.{all_of_table}
use Rattle.shared_index.proofs.index.SharedIndex.finish.Goals as goal

pub close-requires : goal.close-requires
close-requires c =
    let keys = c.args.keys.items in
    record { all = all_of_table c.self.inside.table keys (subst (λ (index : Home). AreAllKeys index keys) (sym c.self.view_is) c.requires.all) }
