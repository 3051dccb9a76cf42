use Rattle.std.proofs.Common.{ap, ◌∙◌, ◌++◌, string_bytes}
use Rattle.std.proofs.lemmas.Result.{on_ok_weaker}
use Rattle.answer_text.proofs.LineTexts.{last_line}
use Rattle.answer_text.proofs.journal.push_last_line.Goals as goal

pub returns : goal.returns
returns c = on_ok_weaker c.push_count.result (λ made. made ∙ ap (λ t. string_bytes c.args.out.now ++ t) (last_line c.args.updates)) c.push_count.ensures
