use Rattle.index_runs.specs.Runs.{GoesOn}
use Rattle.index_runs.proofs.deep.plant.Given as goal

-- between two updates no snapshot is open
abbrev pub invariant-keys : goal.invariant-keys
invariant-keys g l = GoesOn l.initial.pass l.pass
