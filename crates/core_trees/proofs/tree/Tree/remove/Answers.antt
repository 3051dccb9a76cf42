use Rattle.core_trees.specs.Shape.{shape}
use Rattle.core_trees.proofs.StepLaws.{remove_contents, remove_lawful, remove_gaps, remove_moves}
use Rattle.core_trees.proofs.tree.Tree.remove.Goals as goal

pub returns-clause-contents : goal.returns-clause-contents
returns-clause-contents c = remove_contents c.args.slot c.args.key (shape c.args.self) _ c.remove_node.ensures c.requires.lawful

pub returns-clause-lawful : goal.returns-clause-lawful
returns-clause-lawful c = remove_lawful c.args.slot c.args.key (shape c.args.self) _ c.remove_node.ensures c.requires.lawful

pub returns-clause-gaps : goal.returns-clause-gaps
returns-clause-gaps c = remove_gaps c.args.slot c.args.key (shape c.args.self) _ c.remove_node.ensures

pub returns-clause-slots : goal.returns-clause-slots
returns-clause-slots c = remove_moves c.args.slot c.args.key (shape c.args.self) _ c.remove_node.ensures
