use Rattle.std.proofs.Common.{rules, ◌∙◌, ap, sym}
use Rattle.shared_index.specs.Keys.{home_of_pass}
use Rattle.shared_index.proofs.KeyHomes.{note_of_table}
use Rattle.shared_index.proofs.pass.IndexPass.hear.Goals as goal

pub hear-requires : goal.hear-requires
hear-requires c = note_of_table c.self.inside.pass c.args.note (c.requires.of ∙ ap home_of_pass (sym c.self.view_is))

pub invariant_of-self : goal.invariant_of-self
invariant_of-self c = (search rules, c.forget.ensures c.hear.new.self.view)
