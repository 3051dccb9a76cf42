use Rattle.std.proofs.Common.{◌∙◌}
use Rattle.replay_check.proofs.DigitRuns.{line_told}
use Rattle.replay_check.proofs.numbers.line_in.Goals as goal

pub returns : goal.returns
returns c = λ front n change small is.
    c.number_of.ensures.number n small
    (c.split_at-2.ensures.back ∙ line_told front n change c.args.line.now c.split_at.result.0.now c.last_digit_end.result c.last_digits_start.result small is c.last_digit_end.ensures c.split_at.ensures.front c.last_digits_start.ensures)
