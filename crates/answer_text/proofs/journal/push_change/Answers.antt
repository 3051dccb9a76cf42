use Rattle.std.proofs.Common.{◌≡◌, ◌++◌, codes, decimal, string_bytes}
use Rattle.std.proofs.lemmas.Result.{on_ok_weaker}
use Rattle.json.specs.Print.{quoted}
use Rattle.answer_text.specs.Pieces as spec
use Rattle.answer_text.proofs.Joined.{joined}
use Rattle.answer_text.proofs.journal.push_change.Goals as goal

pub returns : goal.returns
unfolding spec.change_text
returns c =
    let change = c.args.change in
    let line : string_bytes c.push_number.new.out ≡ string_bytes c.push_text.new.out ++ (codes ",\"Line\":" ++ decimal c.args.line) =
    rw c.from.ensures at c.in_ok-push_number.ensures in
    on_ok_weaker c.push.result
    (λ end.
    let verb : string_bytes c.push.new.out ≡ string_bytes c.push_number.new.out ++ spec.verb_end_text change = rw c.verb_end.ensures at end in
    joined (string_bytes c.args.out.now) (string_bytes c.push_text.new.out) (string_bytes c.push.new.out) (codes ",\"Key\":" ++ quoted c.args.key.now) ((codes ",\"Line\":" ++ decimal c.args.line) ++ spec.verb_end_text change) c.in_ok-push_text.ensures
    (joined (string_bytes c.push_text.new.out) (string_bytes c.push_number.new.out) (string_bytes c.push.new.out) (codes ",\"Line\":" ++ decimal c.args.line) (spec.verb_end_text change) line verb))
    c.push.ensures
