use Rattle.std.proofs.Common.{sym, ap, ◌∙◌}
use Rattle.answer_text.specs.Lines.{shown}
use Rattle.answer_text.proofs.EscapedBytes.{percent_encode-ESCAPED}
use Rattle.answer_text.proofs.escapes.shown.Goals as goal

pub returns-in_ok-into_cow : goal.returns-in_ok-into_cow
returns-in_ok-into_cow c =
    let text = c.args.text.now in
    c.in_ok-into_cow.ensures.value ∙ c.utf8_percent_encode.ensures.text ∙ percent_encode-ESCAPED text ∙ sym (ap (λ url. shown url text) c.if-url.true)
