use Rattle.std.proofs.Common.{ap, ◌∙◌, ◌++◌, string_bytes}
use Rattle.std.proofs.lemmas.Result.{on_ok_weaker}
use Rattle.answer_text.specs.Lines.{verb_text}
use Rattle.key_names.specs.Names.{name_at}
use Rattle.answer_text.proofs.Order.{journal_rise}
use Rattle.answer_text.proofs.LineTexts.{journal_line}
use Rattle.answer_text.proofs.journal.push_journal_line.Goals as goal

pub returns-clause-text : goal.returns-clause-text
returns-clause-text c =
    let u = c.args.update.now in
    on_ok_weaker c.push_update.result
    (λ made. made ∙ ap (λ t. string_bytes c.args.out.now ++ t) (journal_line c.args.place u.client (name_at c.args.dir.now u.key) u.line u.change))
    c.push_update.ensures

pub returns-clause-order : goal.returns-clause-order
returns-clause-order c = journal_rise c.args.place c.args.update.now.client (name_at c.args.dir.now c.args.update.now.key) c.args.update.now.line (verb_text c.args.update.now.change)
