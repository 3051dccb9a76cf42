use Rattle.replay_check.specs.Looking.{IsReadyOn, looks_left}
use Rattle.replay_check.proofs.looking.look_on.Given as goal

-- the client's next line is due at the place or later
abbrev pub invariant-loop-client : goal.invariant-loop-client
invariant-loop-client l = IsReadyOn l.basis l.number l.replay.at l.client

abbrev pub decreases-loop-client : goal.decreases-loop-client
decreases-loop-client l = looks_left l.lines l.replay.at l.client
