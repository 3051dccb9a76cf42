use Rattle.std.proofs.Common.{length}
use Rattle.run_text.proofs.Cuts.{LeavesReplies}
use Rattle.run_text.proofs.pieces.Pieces.add_replies.Given as goal

abbrev pub invariant-loop-left : goal.invariant-loop-left
invariant-loop-left l = LeavesReplies l.fn.self l.replies l.self-inside.pieces.items l.left

abbrev pub decreases-loop-left : goal.decreases-loop-left
decreases-loop-left l = length l.left
