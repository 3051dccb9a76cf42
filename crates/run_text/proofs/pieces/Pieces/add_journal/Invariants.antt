use Rattle.std.proofs.Common.{◌<◌, length}
use Rattle.run_text.proofs.Cuts.{LeavesJournal}
use Rattle.run_text.proofs.pieces.Pieces.add_journal.Given as goal

abbrev pub invariant-loop-left : goal.invariant-loop-left
invariant-loop-left l = record {
  count : 0 < l.count;
  left : LeavesJournal l.fn.self l.updates l.self-inside.pieces.items l.before l.left;
}

abbrev pub decreases-loop-left : goal.decreases-loop-left
decreases-loop-left l = length l.left
