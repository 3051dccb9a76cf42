use Rattle.core_trees.specs.Shape.{shape}
use Rattle.core_trees.specs.NodeLists.{graph_of}
use Rattle.core_trees.proofs.SpelledTree.{one_tree, frame_law, swap_law}
use Rattle.core_trees.proofs.nodes.spells.Goals as goal

pub returns-clause-only : goal.returns-clause-only
returns-clause-only c = λ yes. one_tree (graph_of c.args.nodes.now) c.args.child (shape c.args.tree.now) (c.spells_from.ensures.0 yes)

pub returns-clause-stays : goal.returns-clause-stays
returns-clause-stays c = λ yes. frame_law (graph_of c.args.nodes.now) c.args.child (shape c.args.tree.now) (c.spells_from.ensures.0 yes)

pub returns-clause-swaps : goal.returns-clause-swaps
returns-clause-swaps c = λ yes. swap_law (graph_of c.args.nodes.now) c.args.child (shape c.args.tree.now) (c.spells_from.ensures.0 yes)
