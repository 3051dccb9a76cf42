use Rattle.std.proofs.Common.{◌≡◌, take}
use Rattle.std.specs.List.{sum_by}
use Rattle.sample_laws.specs.Totals.{listed_by}
use Rattle.client_threads.proofs.counting.listed_by_all.Given as goal

abbrev pub invariant-loop-client : goal.invariant-loop-client
invariant-loop-client g l = l.listed ≡ sum_by listed_by (take l.client (g.R.Runner.replied l.runner))
