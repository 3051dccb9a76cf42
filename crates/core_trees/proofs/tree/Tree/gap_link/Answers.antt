use Rattle.index_words.specs.declared.side.Side.TheVariants.{Right}
use Rattle.core_trees.specs.Shape.{shape}
use Rattle.core_trees.proofs.GapLinks.{end-present, end-gap, end-only}
use Rattle.core_trees.proofs.tree.Tree.gap_link.Goals as goal

pub returns-clause-present : goal.returns-clause-present
returns-clause-present c = end-present c.args.key 0 Right (shape c.args.self.now) c.requires.lawful c.end_link.result c.end_link.ensures

pub returns-clause-gap : goal.returns-clause-gap
returns-clause-gap c = end-gap c.args.key 0 Right (shape c.args.self.now) c.requires.lawful c.end_link.result c.end_link.ensures

pub returns-clause-only : goal.returns-clause-only
returns-clause-only c = end-only c.args.key 0 Right (shape c.args.self.now) c.requires.lawful c.end_link.result c.end_link.ensures
