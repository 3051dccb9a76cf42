use Rattle.std.proofs.Common.{◌≡◌, take}
use Rattle.sample_laws.specs.Totals.{listed_by}
use Rattle.client_threads.proofs.counting.listed_by.Given as goal

abbrev pub invariant-loop-placed : goal.invariant-loop-placed
invariant-loop-placed l = l.listed ≡ listed_by (take l.placed-index l.replies)
