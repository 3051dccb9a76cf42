use Rattle.std.proofs.Common.{ap, ◌∙◌, arith, set}
use Rattle.index_words.specs.declared.view.update.HeldNode.{HeldNode}
use Rattle.core_events.specs.LoadMoves.{node_known}
use Rattle.machine_views.proofs.InPlace.{map_step}
use Rattle.machine_views.proofs.loads.know_stamp.Goals as goal

pub loop-held-preserved : goal.loop-held-preserved
loop-held-preserved c =
    ap (λ (h : HeldNode). set c.loop-held.nodes c.loop-held.held-index h) c.node_with_stamp.ensures
    ∙ map_step (node_known c.args.entry c.args.stamp) c.args.nodes.now c.loop-held.nodes c.loop-held.held-index _ c.loop-held.invariant (omega (arith, c.loop-held-test.true))
