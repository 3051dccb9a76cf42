use Rattle.std.proofs.Common.{◌≡◌}
use Rattle.std.specs.String.{string_bytes}
use Rattle.request_lines.specs.Sample.{clients_text}
use Rattle.request_lines.proofs.sample.sample_input.Given as goal

abbrev pub invariant-loop-client : goal.invariant-loop-client
invariant-loop-client l = string_bytes l.text ≡ clients_text l.n l.client
