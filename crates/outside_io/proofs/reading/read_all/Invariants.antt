use Rattle.std.proofs.Common.{◌-◌, ◌≤◌, ◌≡◌, vec_len}
use Rattle.outside_io.specs.Streams.{IsRead}
use Rattle.outside_io.proofs.reading.read_all.Given as goal

abbrev pub invariant-loop-bytes : goal.invariant-loop-bytes
invariant-loop-bytes g l = record {
  read : IsRead (g.S.Source.rest l.fn.source) (g.S.Source.rest l.source) l.bytes.items;
  within : vec_len l.bytes ≤ l.limit;
  room : vec_len l.buffer ≡ 65536;
  quiet : g.S.Source.faults l.source ≡ g.S.Source.faults l.fn.source;
}

abbrev pub decreases-loop-bytes : goal.decreases-loop-bytes
decreases-loop-bytes g l = l.limit - vec_len l.bytes
