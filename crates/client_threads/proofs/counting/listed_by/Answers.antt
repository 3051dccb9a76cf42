use Rattle.std.proofs.Common.{arith}
use Rattle.bucket_terms.specs.declared.reply.Placed.{Placed}
use Rattle.sample_laws.specs.Totals.{listed_in}
use Rattle.client_threads.proofs.Sums.{all_counted}
use Rattle.client_threads.proofs.counting.listed_by.Goals as goal

pub returns : goal.returns
returns c = all_counted (λ (p : Placed). listed_in p.reply) c.args.replies.now c.loop-placed.placed-index c.loop-placed.listed c.loop-placed.invariant (omega (arith, c.loop-placed-test.false))
