use Rattle.std.proofs.Common.{◌∙◌, ap, sym}
use Rattle.shared_index.specs.Keys.{home_of_index}
use Rattle.shared_index.proofs.KeyHomes.{of_table}
use Rattle.shared_index.proofs.index.SharedIndex.attach.Goals as goal

pub attach-pass-requires : goal.attach-pass-requires
attach-pass-requires c = record { of = of_table c.self.inside.table c.args.key (c.requires.of ∙ ap home_of_index (sym c.self.view_is)) }
