use Rattle.std.proofs.Common.{◌==◌, ◌∙◌, ap}
use Rattle.std.specs.List.{list_any}
use Rattle.line_grammar.proofs.FirstByte.{first_any}
use Rattle.line_grammar.proofs.texts.has_percent.Goals as goal

pub returns : goal.returns
returns c =
    c.is_some.ensures ∙ first_any (λ b. b == 37) c.as_bytes.result.now c.memchr.result c.memchr.ensures
    ∙ ap (λ text. list_any (λ b. b == 37) text) c.as_bytes.ensures.value
