use Rattle.std.proofs.Common.{[], arith}
use Rattle.sample_laws.specs.Totals.{listed_by}
use Rattle.client_threads.proofs.Sums.{one_fits, all_counted}
use Rattle.client_threads.proofs.counting.listed_by_all.Goals as goal

pub listed_by-listed-requires : goal.listed_by-listed-requires
listed_by-listed-requires g c =
    one_fits listed_by (g.R.Runner.replied c.args.runner.now) c.loop-client.client c.replies.result.now [] c.loop-client.listed c.loop-client.invariant c.replies.ensures
    (omega (arith, c.loop-client-test.true, c.requires.clients)) c.requires.fits

pub returns : goal.returns
returns g c = all_counted listed_by (g.R.Runner.replied c.args.runner.now) c.loop-client.client c.loop-client.listed c.loop-client.invariant (omega (arith, c.loop-client-test.false, c.requires.clients))
