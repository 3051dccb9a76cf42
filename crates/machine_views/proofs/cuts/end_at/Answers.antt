use Rattle.std.proofs.Common.{ap, ◌∙◌, arith, set}
use Rattle.index_words.specs.declared.view.update.HeldNext.{HeldNext}
use Rattle.core_events.specs.CutMoves.{next_cut}
use Rattle.machine_views.proofs.InPlace.{map_step}
use Rattle.machine_views.proofs.cuts.end_at.Goals as goal

pub loop-held-preserved : goal.loop-held-preserved
loop-held-preserved c =
    ap (λ (h : HeldNext). set c.loop-held.nexts c.loop-held.held-index h) c.with_end.ensures
    ∙ map_step (next_cut c.args.entry) c.args.nexts.now c.loop-held.nexts c.loop-held.held-index _ c.loop-held.invariant (omega (arith, c.loop-held-test.true))
