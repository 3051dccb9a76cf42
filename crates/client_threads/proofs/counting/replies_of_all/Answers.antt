use Rattle.std.proofs.Common.{length, arith}
use Rattle.client_threads.proofs.Sums.{all_counted}
use Rattle.client_threads.proofs.counting.replies_of_all.Goals as goal

pub returns : goal.returns
returns g c = all_counted length (g.R.Runner.replied c.args.runner.now) c.loop-client.client c.loop-client.replies c.loop-client.invariant (omega (arith, c.loop-client-test.false, c.requires.clients))
