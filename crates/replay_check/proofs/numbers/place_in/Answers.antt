use Rattle.replay_check.proofs.DigitRuns.{place_told}
use Rattle.replay_check.proofs.numbers.place_in.Goals as goal

pub returns : goal.returns
returns c = λ at rest small is.
    place_told at rest c.args.line.now c.behind.result.now c.first_number.result small is c.behind.ensures c.first_number.ensures.digits c.first_number.ensures.none
