use Rattle.std.proofs.Common.{◌∙◌, arith}
use Rattle.request_lines.proofs.SampleParts.{first_count, first_by_count}
use Rattle.request_lines.proofs.generated.Client.of.Goals as goal

pub returns-clause-client : goal.returns-clause-client
returns-clause-client c = record {
  names = first_by_count c.args.client c.loop-i.i c.loop-i.names.items c.loop-i.invariant;
  query = c.in_ok-new.ensures ∙ c.in_ok-query.ensures;
}

pub returns-clause-count : goal.returns-clause-count
returns-clause-count c = omega (arith, first_count c.args.client c.loop-i.i c.loop-i.names.items c.loop-i.invariant)
