use Rattle.std.proofs.Common.{ℕ, ap, ◌∙◌}
use Rattle.request_lines.specs.SampleSession.{sample_request}
use Rattle.request_lines.proofs.SampleParts.{place_is, requests_more, names_more, records_more}
use Rattle.request_lines.proofs.generated.Generated.client.Goals as goal

pub loop-i-preserved : goal.loop-i-preserved
loop-i-preserved c =
    let n = c.args.n in
    let client = c.args.client in
    let i = c.loop-i.i in
    let before = c.args.self.now in
    let place = place_is n client i before.records.items c.loop-i.self.records.items c.requires.puts c.loop-i.invariant.records in
    record {
      requests = c.in_ok-push.ensures ∙ requests_more n client i c.loop-i.requests c.in_ok-request.request c.loop-i.invariant.requests
          (c.in_ok-request.ensures.request ∙ ap (λ (k : ℕ). sample_request k client i) place);
      names = c.in_ok-request.ensures.names ∙ names_more client i before.names c.loop-i.self.names c.loop-i.invariant.names;
      records = c.in_ok-request.ensures.records ∙ records_more i before.records.items c.loop-i.self.records.items c.loop-i.invariant.records;
    }
