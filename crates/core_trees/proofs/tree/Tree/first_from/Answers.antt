use Rattle.std.proofs.Common.{◌∙◌}
use Rattle.core_trees.specs.Shape.{shape}
use Rattle.core_trees.proofs.StepLaws.{search_contents}
use Rattle.core_trees.proofs.tree.Tree.first_from.Goals as goal

pub returns : goal.returns
returns c = record { first = c.search_from.ensures ∙ search_contents c.args.key (shape c.args.self.now) c.requires.lawful }
