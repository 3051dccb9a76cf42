use Rattle.std.proofs.Common.{◌≡◌, ◌++◌, codes, decimal, string_bytes}
use Rattle.std.proofs.lemmas.Result.{on_ok_weaker}
use Rattle.answer_text.specs.Pieces as spec
use Rattle.answer_text.proofs.Joined.{joined}
use Rattle.answer_text.proofs.replies.push_found_end.Goals as goal

pub returns : goal.returns
unfolding spec.found_end_text
returns c =
    let line : string_bytes c.push_number.new.out ≡ string_bytes c.args.out.now ++ (codes ",\"Line\":" ++ decimal c.args.line) =
    rw c.from.ensures at c.in_ok-push_number.ensures in
    on_ok_weaker c.push.result
    (λ end.
    joined (string_bytes c.args.out.now) (string_bytes c.push_number.new.out) (string_bytes c.push.new.out) (codes ",\"Line\":" ++ decimal c.args.line) ((codes ",\"Size\":" ++ decimal c.args.size) ++ codes ",\"Status\":200}\n") line
    (joined (string_bytes c.push_number.new.out) (string_bytes c.push_number-2.new.out) (string_bytes c.push.new.out) (codes ",\"Size\":" ++ decimal c.args.size) (codes ",\"Status\":200}\n") c.in_ok-push_number-2.ensures end))
    c.push.ensures
