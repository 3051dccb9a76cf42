use Rattle.answer_text.proofs.Order.{reply_rise, content_rise}
use Rattle.answer_text.proofs.replies.push_reply_line.Goals as goal

pub returns-clause-order : goal.returns-clause-order
returns-clause-order c = reply_rise c.args.dir.now c.args.records.now c.args.placed.now.at c.args.placed.now.client c.args.placed.now.line c.args.placed.now.reply

pub returns-clause-key_order : goal.returns-clause-key_order
returns-clause-key_order c = λ key stored. content_rise key stored
