use Rattle.std.proofs.Common.{[], ◌∙◌}
use Rattle.index_words.specs.Words.{memory}
use Rattle.core_events.specs.SpelledNow.{graph_now, tree_from}
use Rattle.machine_spelled.proofs.TreeTests.{ready_is, added_free, heads_free, move_is}
use Rattle.machine_spelled.proofs.tree_moves.tree_move.Goals as goal

pub own_added-added-requires : goal.own_added-added-requires
own_added-added-requires c =
    added_free (memory c.args.layout.now c.args.words.now) c.args.view.now c.plan_of-plan.result.added c.as_slice-2.result.now c.as_slice-2.ensures
    (ready_is c.args.layout.now (memory c.args.layout.now c.args.words.now) c.args.views.now c.args.view.now c.args.update c.as_slice.result.now
    (tree_from c.whole.result.depth c.args.layout.now.nodes (graph_now (memory c.args.layout.now c.args.words.now) c.args.views.now []) c.whole.result.child)
    c.plan_of-plan.result.slot c.plan_of-plan.result.added c.as_slice.ensures c.whole.ensures c.plan_of-plan.ensures.slot c.plan_of-plan.ensures.added c.requires)

pub new_list-requires-clause-left : goal.new_list-requires-clause-left
new_list-requires-clause-left c =
    (heads_free (memory c.args.layout.now c.args.words.now) c.args.view.now c.plan_of-plan.result.heads.left c.plan_of-plan.result.heads.right c.plan_of-plan.result.added c.as_slice-3.result.now c.as_slice-3.ensures
    c.plan_of-plan.ensures.heads
    (ready_is c.args.layout.now (memory c.args.layout.now c.args.words.now) c.args.views.now c.args.view.now c.args.update c.as_slice.result.now
    (tree_from c.whole.result.depth c.args.layout.now.nodes (graph_now (memory c.args.layout.now c.args.words.now) c.args.views.now []) c.whole.result.child)
    c.plan_of-plan.result.slot c.plan_of-plan.result.added c.as_slice.ensures c.whole.ensures c.plan_of-plan.ensures.slot c.plan_of-plan.ensures.added c.requires)).0

pub new_list-requires-clause-right : goal.new_list-requires-clause-right
new_list-requires-clause-right c =
    (heads_free (memory c.args.layout.now c.args.words.now) c.args.view.now c.plan_of-plan.result.heads.left c.plan_of-plan.result.heads.right c.plan_of-plan.result.added c.as_slice-3.result.now c.as_slice-3.ensures
    c.plan_of-plan.ensures.heads
    (ready_is c.args.layout.now (memory c.args.layout.now c.args.words.now) c.args.views.now c.args.view.now c.args.update c.as_slice.result.now
    (tree_from c.whole.result.depth c.args.layout.now.nodes (graph_now (memory c.args.layout.now c.args.words.now) c.args.views.now []) c.whole.result.child)
    c.plan_of-plan.result.slot c.plan_of-plan.result.added c.as_slice.ensures c.whole.ensures c.plan_of-plan.ensures.slot c.plan_of-plan.ensures.added c.requires)).1

pub returns : goal.returns
returns c =
    let m = memory c.args.layout.now c.args.words.now in
    let plan = c.plan_of-plan.result in
    let has = c.plan_of-plan.ensures in
    move_is c.args.layout.now m c.args.views.now c.args.view.now c.args.update c.as_slice.result.now
    (tree_from c.whole.result.depth c.args.layout.now.nodes (graph_now m c.args.views.now []) c.whole.result.child)
    plan.slot plan.heads.left plan.heads.right plan.added plan.taken.replaced plan.taken.successor plan.links _
    c.as_slice.ensures c.whole.ensures has.slot has.added has.taken has.heads has.plain
    c.own_added-added.ensures (c.entries.view_is ∙ c.in_ok-entries.ensures) (c.taken.view_is ∙ c.in_ok-taken.ensures) c.in_ok-taken_entries.ensures c.in_ok-plain_move.ensures
