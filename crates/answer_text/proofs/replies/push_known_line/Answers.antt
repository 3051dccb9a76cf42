use Rattle.std.proofs.Common.{ap, ◌∙◌, ◌++◌, string_bytes}
use Rattle.std.proofs.lemmas.Result.{on_ok_weaker}
use Rattle.answer_text.proofs.LineTexts.{reply_line}
use Rattle.answer_text.proofs.replies.push_known_line.Goals as goal

pub returns : goal.returns
returns c =
    let p = c.args.placed.now in
    record {
      text =
          on_ok_weaker c.push_reply.result
          (λ made. made ∙ ap (λ t. string_bytes c.args.out.now ++ t) (reply_line c.args.known.now.dir.now c.args.known.now.records.now p.at p.client p.line p.reply))
          c.push_reply.ensures;
    }
