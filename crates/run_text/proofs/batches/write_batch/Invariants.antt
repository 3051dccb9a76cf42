use Rattle.std.proofs.Common.{◌≡◌, take}
use Rattle.outside_io.specs.Streams.{IsTaken}
use Rattle.run_text.specs.Pieces.{pieces_text}
use Rattle.run_text.proofs.batches.write_batch.Given as goal

abbrev pub invariant-loop-place : goal.invariant-loop-place
invariant-loop-place g l = record {
  taken : IsTaken (g.K.Sink.taken l.fn.sink) (g.K.Sink.taken l.sink) (pieces_text l._known.dir.now l._known.records.now (take l.place l.batch.pieces.now));
  quiet : g.K.Sink.faults l.sink ≡ g.K.Sink.faults l.fn.sink;
}
