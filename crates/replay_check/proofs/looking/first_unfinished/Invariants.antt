use Rattle.replay_check.specs.Looking.{against}
use Rattle.replay_check.proofs.Unfinished.{Finished}
use Rattle.replay_check.proofs.looking.first_unfinished.Given as goal

-- the clients so far have no line left
abbrev pub invariant-loop-number : goal.invariant-loop-number
invariant-loop-number l = Finished (against l.basis) l.clients l.number
