use Rattle.index_runs.specs.Runs.{GoesOn}
use Rattle.index_runs.proofs.visits.come_and_go.Given as goal

-- between two visits no snapshot is open
abbrev pub invariant-visits : goal.invariant-visits
invariant-visits g l = GoesOn l.initial.pass l.pass
