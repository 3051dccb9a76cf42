use Rattle.std.proofs.Common.{ap, sym, ◌∙◌, Ok}
use Rattle.line_grammar.proofs.TextLaws.{unescaped_plain}
use Rattle.line_grammar.proofs.texts.unescaped.Goals as goal

pub returns-in_ok-of : goal.returns-in_ok-of
returns-in_ok-of c =
    unescaped_plain c.args.text.now (sym c.has_percent.ensures ∙ c.if-has_percent.false) c.utf8.text ∙ ap (λ text. Ok text) (sym c.in_ok-of.ensures)
