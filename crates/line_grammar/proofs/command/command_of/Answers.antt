use Rattle.std.proofs.lemmas.Str.{is_utf8-from_IsUtf8}
use Rattle.line_grammar.specs.Line.{reading_of}
use Rattle.line_grammar.proofs.Fine.{reading_fine, fine_answer}
use Rattle.line_grammar.proofs.command.command_of.Goals as goal

pub returns-clause-reading : goal.returns-clause-reading
unfolding reading_of
returns-clause-reading c = rw (is_utf8-from_IsUtf8 c.args.line.now c.utf8.line) c.said.ensures

pub returns-clause-fine : goal.returns-clause-fine
returns-clause-fine c = fine_answer c.said.result _ (reading_fine c.args.line.now) (returns-clause-reading c)
