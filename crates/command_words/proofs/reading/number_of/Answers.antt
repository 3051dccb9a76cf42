use Rattle.std.proofs.Common.{arith}
use Rattle.std.proofs.lemmas.Fmt.{parse-decimal}
use Rattle.command_words.proofs.reading.number_of.Goals as goal

pub returns-in-Ok : goal.returns-in-Ok
returns-in-Ok c = λ n is small.
    let read = parse-decimal 32 n c.args.text.now c.parse.result (omega arith) (omega arith) is c.parse.ensures.value.0 in
    cc

pub returns-in-Err : goal.returns-in-Err
returns-in-Err c = λ n is small.
    let read = parse-decimal 32 n c.args.text.now c.parse.result (omega arith) (omega arith) is c.parse.ensures.value.0 in
    cc
