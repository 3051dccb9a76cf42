use Rattle.index_runs.specs.Runs.{GoesOn}
use Rattle.index_runs.proofs.far.look_on.Given as goal

-- between two looks no snapshot is open
abbrev pub invariant-looks : goal.invariant-looks
invariant-looks g l = GoesOn l.initial.pass l.pass
