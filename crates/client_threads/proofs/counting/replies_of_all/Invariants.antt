use Rattle.std.proofs.Common.{◌≡◌, take, length}
use Rattle.std.specs.List.{sum_by}
use Rattle.client_threads.proofs.counting.replies_of_all.Given as goal

abbrev pub invariant-loop-client : goal.invariant-loop-client
invariant-loop-client g l = l.replies ≡ sum_by length (take l.client (g.R.Runner.replied l.runner))
