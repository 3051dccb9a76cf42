use Rattle.std.proofs.Common.{[], sym}
use Rattle.machine_spelled.specs.Sights.{memory_of}
use Rattle.core_events.specs.SpelledNow.{graph_now}
use Rattle.core_events.proofs.Changes.{on_ok}
use Rattle.machine_spelled.proofs.SeenTrees.{nodes_at}
use Rattle.machine_spelled.proofs.spelled_now.+push_nodes.Goals as goal

pub returns : goal.returns
returns t c =
    on_ok c.push_nodes-2.result
    (nodes_at c.args.depth c.args.sight.now.layout.now.nodes c.args.child c.in-Some.slot c.field_of.result c.field_of-2.result c.old_child-left.result c.old_child-right.result c.top_of.result c.top_of-2.result
    (graph_now (memory_of c.args.sight.now) c.args.sight.now.views.now [])
    c.args.nodes.now c.push_nodes.new.nodes c.push.new.self c.push_nodes-2.new.nodes c.if-depth-eq0.false (sym c.in-Some.ensures) c.field_of.ensures c.field_of-2.ensures
    c.old_child-left.ensures c.old_child-right.ensures c.top_of.ensures c.top_of-2.ensures c.in_ok-push_nodes.ensures c.in_ok-push.ensures.ok)
    c.push_nodes-2.ensures
