use Rattle.index_runs.specs.Runs.{GoesOn}
use Rattle.index_runs.proofs.tries.try_puts.Given as goal

-- between two tries no snapshot is open
abbrev pub invariant-tries : goal.invariant-tries
invariant-tries l = GoesOn l.initial.pass l.pass
