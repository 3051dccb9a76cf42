use Rattle.std.proofs.Common.{Some, None, lit<}
use Rattle.std.proofs.lemmas.Str.Pattern.{strip_prefix_char}
use Rattle.line_grammar.proofs.TextLaws.{marked, unmarked}
use Rattle.line_grammar.proofs.query.without_mark.Goals as goal

pub returns-in-Some : goal.returns-in-Some
returns-in-Some c = marked c.args.text.now c.in-Some.query.now (strip_prefix_char 63 c.args.text.now (Some c.in-Some.query) c.in-Some.ensures.cases (lit< tt))

pub returns-in-None : goal.returns-in-None
returns-in-None c = unmarked c.args.text.now (strip_prefix_char 63 c.args.text.now None c.in-None.ensures.cases (lit< tt))
