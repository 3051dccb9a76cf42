use Rattle.replay_check.proofs.DigitRuns.{client_told}
use Rattle.replay_check.proofs.numbers.client_in.Goals as goal

pub returns : goal.returns
returns c = λ at client rest small_at small_client is.
    client_told at client rest c.args.line.now c.behind-at.result.now c.behind.result.now c.behind-2.result.now c.digits_len.result c.first_number.result small_at small_client is
    c.behind-at.ensures c.digits_len.ensures c.behind.ensures c.behind-2.ensures c.first_number.ensures.digits
