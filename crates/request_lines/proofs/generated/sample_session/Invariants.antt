use Rattle.std.proofs.Common.{◌≡◌}
use Rattle.request_lines.specs.SampleSession.{sample_clients_parts, sample_clients_names, sample_clients_records}
use Rattle.request_lines.proofs.generated.sample_session.Given as goal

abbrev pub invariant-loop-client : goal.invariant-loop-client
invariant-loop-client l = record {
  parts : l.parts.items ≡ sample_clients_parts l.n l.client;
  names : l.generated.names ≡ sample_clients_names l.n l.client;
  records : l.generated.records.items ≡ sample_clients_records l.n l.client;
}
