use Rattle.std.proofs.Common.{ap, ◌∙◌, arith, set}
use Rattle.index_words.specs.declared.view.update.HeldNode.{HeldNode}
use Rattle.core_events.specs.PlainMoves.{tag_known_at}
use Rattle.machine_views.proofs.InPlace.{map_step}
use Rattle.machine_views.proofs.plain_links.know_tag.Goals as goal

pub loop-held-preserved : goal.loop-held-preserved
loop-held-preserved c =
    ap (λ (h : HeldNode). set c.loop-held.nodes c.loop-held.held-index h) c.with_tag.ensures
    ∙ map_step (tag_known_at c.args.node c.args.side c.args.tag) c.args.nodes.now c.loop-held.nodes c.loop-held.held-index _ c.loop-held.invariant (omega (arith, c.loop-held-test.true))
