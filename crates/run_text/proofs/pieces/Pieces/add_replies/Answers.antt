use Rattle.std.proofs.Common.{refl}
use Rattle.run_text.proofs.Cuts.{one_cut}
use Rattle.run_text.proofs.pieces.Pieces.add_replies.Goals as goal

pub loop-left-preserved : goal.loop-left-preserved
loop-left-preserved c =
    rw c.in_ok-push.ensures.items
    (one_cut c.args.self.now c.args.replies.now c.loop-left.self-inside.pieces.items c.loop-left.left.now c.split_at.result.0.now c.split_at.result.1.now _ _
    c.split_at.ensures.front c.split_at.ensures.back (λ dir records. refl) (λ dir records all. all) c.loop-left.invariant)
