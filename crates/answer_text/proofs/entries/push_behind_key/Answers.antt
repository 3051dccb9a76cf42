use Rattle.std.proofs.Common.{◌++◌, codes, decimal, string_bytes}
use Rattle.std.proofs.lemmas.Result.{on_ok_weaker}
use Rattle.answer_text.specs.Pieces as spec
use Rattle.answer_text.proofs.Joined.{joined}
use Rattle.answer_text.proofs.entries.push_behind_key.Goals as goal

pub returns : goal.returns
unfolding spec.behind_key_text
returns c =
    on_ok_weaker c.push.result
    (λ end.
    joined (string_bytes c.args.out.now) (string_bytes c.push_number.new.out) (string_bytes c.push.new.out) (codes "\",\"LastModified\":" ++ decimal c.args.modified) ((codes ",\"Size\":" ++ decimal c.args.size) ++ codes "}") c.in_ok-push_number.ensures
    (joined (string_bytes c.push_number.new.out) (string_bytes c.push_number-2.new.out) (string_bytes c.push.new.out) (codes ",\"Size\":" ++ decimal c.args.size) (codes "}") c.in_ok-push_number-2.ensures end))
    c.push.ensures
