use Rattle.line_grammar.proofs.TextLaws.{number_answer}
use Rattle.line_grammar.proofs.texts.number.Goals as goal

pub returns : goal.returns
returns c = rw c.ok.ensures.value (number_answer c.args.text.now c.parse.result c.parse.ensures.value.0 c.requires)
