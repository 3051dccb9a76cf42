use Rattle.std.proofs.Common.{◌≡◌, ◌++◌}
use Rattle.request_lines.specs.SampleSession.{sample_requests, sample_names, sample_records}
use Rattle.request_lines.proofs.generated.Generated.client.Given as goal

abbrev pub invariant-loop-i : goal.invariant-loop-i
invariant-loop-i l = record {
  requests : l.requests ≡ sample_requests l.n l.client l.i;
  names : l.self.names ≡ l.fn.self.names ++ sample_names l.client l.i;
  records : l.self.records.items ≡ l.fn.self.records.items ++ sample_records l.i;
}
