use Rattle.index_runs.specs.Runs.{GoesOn}
use Rattle.index_runs.proofs.far.put_elsewhere.Given as goal

-- between two updates no snapshot is open
abbrev pub invariant-updates : goal.invariant-updates
invariant-updates g l = GoesOn l.initial.pass l.pass
