use Rattle.std.proofs.Common.{arith}
use Rattle.core_trees.specs.Shape.{shape}
use Rattle.core_trees.proofs.StepLaws.{put_contents, put_lawful, put_gaps, put_moves}
use Rattle.core_trees.proofs.tree.Tree.put.Goals as goal

pub returns-in-Ok-clause-step : goal.returns-in-Ok-clause-step
returns-in-Ok-clause-step c = rw c.in-Ok.ensures.ok at c.with_node.ensures

pub returns-in-Ok-clause-contents : goal.returns-in-Ok-clause-contents
returns-in-Ok-clause-contents c =
    put_contents c.args.slot c.args.key c.args.val (shape c.args.self) (shape c.with_node.result)
    (rw c.in-Ok.ensures.ok at c.with_node.ensures) c.requires.lawful

pub returns-in-Ok-clause-lawful : goal.returns-in-Ok-clause-lawful
returns-in-Ok-clause-lawful c =
    put_lawful c.args.slot c.args.key c.args.val (shape c.args.self) (shape c.with_node.result)
    (rw c.in-Ok.ensures.ok at c.with_node.ensures) (omega arith) c.requires.lawful

pub returns-in-Ok-clause-slots : goal.returns-in-Ok-clause-slots
returns-in-Ok-clause-slots c =
    put_moves c.args.slot c.args.key c.args.val (shape c.args.self) (shape c.with_node.result)
    (rw c.in-Ok.ensures.ok at c.with_node.ensures)

pub returns-in-Ok-clause-gaps : goal.returns-in-Ok-clause-gaps
returns-in-Ok-clause-gaps c =
    put_gaps c.args.slot c.args.key c.args.val (shape c.args.self) (shape c.with_node.result)
    (rw c.in-Ok.ensures.ok at c.with_node.ensures)
