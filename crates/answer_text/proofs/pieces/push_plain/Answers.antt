use Rattle.std.proofs.Common.{ap, sym, ◌∙◌, [], ◌∷◌, ◌++◌, codes, string_bytes}
use Rattle.std.proofs.lemmas.Result.{on_ok_weaker}
use Rattle.answer_text.proofs.Joined.{joined}
use Rattle.answer_text.proofs.pieces.push_plain.Goals as goal

pub returns : goal.returns
returns c =
    on_ok_weaker c.push-3.result
    (λ end. joined (string_bytes c.args.out.now) (string_bytes c.push.new.out) (string_bytes c.push-3.new.out) (codes "\"") ((c.args.text.now ++ codes "\"")) c.in_ok-push.ensures (joined (string_bytes c.push.new.out) (string_bytes c.push-2.new.out) (string_bytes c.push-3.new.out) (c.args.text.now) (codes "\"") c.in_ok-push-2.ensures end)
    ∙ ap (λ t. string_bytes c.args.out.now ++ 34 ∷ (t ++ 34 ∷ [])) (sym c.requires))
    c.push-3.ensures
