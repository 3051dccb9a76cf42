use Rattle.std.proofs.Common.{[]}
use Rattle.index_words.specs.Words.{memory}
use Rattle.core_events.specs.SpelledNow.{graph_now, tree_from}
use Rattle.machine_spelled.proofs.TreeTests.{step_is}
use Rattle.machine_spelled.proofs.tree_steps.is_tree_step.Goals as goal

pub returns : goal.returns
returns c =
    let m = memory c.args.layout.now c.args.words.now in
    let plan = c.plan_of-plan.result in
    let has = c.plan_of-plan.ensures in
    step_is c.args.layout.now m c.args.views.now c.args.view.now c.args.update c.as_slice-pending.result.now c.as_slice.result.now
    (tree_from c.whole-tree.result.depth c.args.layout.now.nodes (graph_now m c.args.views.now []) c.whole-tree.result.child)
    plan.slot plan.heads.left plan.heads.right plan.added plan.taken.replaced plan.taken.successor plan.links
    c.is_key.result c.is_there-there.result c.are_locked-locked.result c.is_new-ready.result c.spells_after-spelled.result c.has_plain_links-plain.result c.all_hold.result
    c.as_slice-pending.ensures c.as_slice.ensures c.whole-tree.ensures has.slot has.added has.taken has.heads has.plain
    c.is_there-there.ensures c.are_locked-locked.ensures c.is_new-ready.ensures c.spells_after-spelled.ensures c.has_plain_links-plain.ensures c.is_key.ensures c.all_hold.ensures
