use Rattle.std.proofs.Common.{◌≡◌, ℕ, Vec, Global, arith, ◌∙◌, ap}
use Rattle.request_lines.specs.Sample.{clients_text, sample_text}
use Rattle.request_lines.proofs.SampleWalk.{sample_read, sample_length}
use Rattle.request_lines.proofs.sample.sample_input.Goals as goal

written : (c : goal.After-into_bytes) → c.into_bytes.result.items ≡ sample_text c.args.n
written c =
    let clients : c.loop-client.client ≡ 4 = omega arith in
    ap (λ (v : Vec ℕ Global). v.items) c.into_bytes.ensures.value ∙ c.loop-client.invariant ∙ ap (clients_text c.args.n) clients

pub returns-clause-session : goal.returns-clause-session
returns-clause-session c =
    let is : c.into_bytes.result.items ≡ sample_text c.args.n = written c in
    sample_read c.args.n c.into_bytes.result.items c.requires.most is

pub returns-clause-short : goal.returns-clause-short
returns-clause-short c =
    let is : c.into_bytes.result.items ≡ sample_text c.args.n = written c in
    sample_length c.args.n c.into_bytes.result.items c.requires.most is
