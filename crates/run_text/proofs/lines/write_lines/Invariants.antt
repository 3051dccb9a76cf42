use Rattle.std.proofs.Common.{◌≤◌, ◌≡◌, length, take}
use Rattle.outside_io.specs.Streams.{IsTaken}
use Rattle.run_text.proofs.lines.write_lines.Given as goal

abbrev pub invariant-loop-end : goal.invariant-loop-end
invariant-loop-end g l = record {
  within : l.done ≤ length l.text;
  taken : IsTaken (g.K.Sink.taken l.fn.sink) (g.K.Sink.taken l.sink) (take l.done l.text);
  quiet : g.K.Sink.faults l.sink ≡ g.K.Sink.faults l.fn.sink;
}
