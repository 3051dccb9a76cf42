use Rattle.std.proofs.Common.{◌≡◌}
use Rattle.shared_index.specs.Keys.{home_of_pass}
use Rattle.shared_index.specs.Shown.{shown}
use Rattle.index_runs.proofs.work.read.Given as goal

-- the pass is as it was
abbrev pub invariant-pairs : goal.invariant-pairs
invariant-pairs g l = (shown l.pass ≡ shown l.initial.pass) × (home_of_pass l.pass ≡ home_of_pass l.initial.pass)
