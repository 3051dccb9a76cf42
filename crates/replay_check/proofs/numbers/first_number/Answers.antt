use Rattle.std.proofs.Common.{[], ◌∙◌, decimal}
use Rattle.text_laws.proofs.Runs.{digits_of}
use Rattle.replay_check.proofs.DigitRuns.{front_taken}
use Rattle.replay_check.proofs.numbers.first_number.Goals as goal

pub returns-clause-digits : goal.returns-clause-digits
returns-clause-digits c = λ n b rest small other is.
    c.number_of.ensures.number n small
    (c.split_at.ensures.front ∙ front_taken c.args.text.now (decimal n) b rest c.digits_len.result (digits_of n small) other is c.digits_len.ensures)

pub returns-clause-none : goal.returns-clause-none
returns-clause-none c = λ b rest other is.
    c.number_of.ensures.none (c.split_at.ensures.front ∙ front_taken c.args.text.now [] b rest c.digits_len.result tt other is c.digits_len.ensures)
