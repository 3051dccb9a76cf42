use Rattle.index_runs.specs.Runs.{GoesOn}
use Rattle.index_runs.proofs.work.work.Given as goal

-- between two requests no snapshot is open
abbrev pub invariant-loop-line : goal.invariant-loop-line
invariant-loop-line g l = GoesOn l.initial.pass l.pass
