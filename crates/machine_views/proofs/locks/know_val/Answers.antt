use Rattle.std.proofs.Common.{ap, ◌∙◌, arith, set}
use Rattle.index_words.specs.declared.view.update.HeldNode.{HeldNode}
use Rattle.index_words.specs.declared.word.Field.TheVariants.{Val}
use Rattle.core_events.specs.LockMoves.{pair_known}
use Rattle.machine_views.proofs.InPlace.{map_step}
use Rattle.machine_views.proofs.locks.know_val.Goals as goal

pub loop-held-preserved : goal.loop-held-preserved
loop-held-preserved c =
    ap (λ (h : HeldNode). set c.loop-held.nodes c.loop-held.held-index h) c.node_with_val.ensures
    ∙ map_step (pair_known Val c.args.node c.args.val) c.args.nodes.now c.loop-held.nodes c.loop-held.held-index _ c.loop-held.invariant (omega (arith, c.loop-held-test.true))
