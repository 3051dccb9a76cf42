use Rattle.std.proofs.Common.{◌-◌, ◌<◌, ◌≤◌, ◌≡◌, length, take, drop}
use Rattle.outside_io.specs.Streams.{IsTaken}
use Rattle.run_text.specs.Pieces.{pieces_text}
use Rattle.run_text.specs.Sheets.{AreFilled}
use Rattle.run_text.proofs.writing.write_pieces.Given as goal

abbrev pub invariant-loop-done : goal.invariant-loop-done
invariant-loop-done g l = record {
  most : 0 < l.most;
  spare : length l.spare.items ≡ l.most;
  filled_room : length l.filled.items ≡ l.most;
  within : l.done ≤ length l.pieces;
  filled : AreFilled l.known.dir.now l.known.records.now (take l.most (drop l.done l.pieces)) l.filled.items;
  taken : IsTaken (g.K.Sink.taken l.fn.sink) (g.K.Sink.taken l.sink) (pieces_text l.known.dir.now l.known.records.now (take l.done l.pieces));
  quiet : g.K.Sink.faults l.sink ≡ g.K.Sink.faults l.fn.sink;
}

abbrev pub decreases-loop-done : goal.decreases-loop-done
decreases-loop-done g l = length l.pieces - l.done
