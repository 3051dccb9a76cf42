use Rattle.std.proofs.Common.{◌≡◌, ◌++◌, codes, string_bytes}
use Rattle.std.proofs.lemmas.Result.{on_ok_weaker}
use Rattle.answer_text.specs.Lines.{shown, is_given}
use Rattle.answer_text.specs.Pieces as spec
use Rattle.answer_text.proofs.Joined.{joined}
use Rattle.answer_text.proofs.listing_v1.push_asked.Goals as goal

pub returns : goal.returns
unfolding spec.v1_asked_text
returns c =
    let q = c.args.query.now in
    let delimiter : string_bytes c.push_given.new.out ≡ string_bytes c.args.out.now ++ (spec.given_text (is_given q.delimiter) (codes ",\"Delimiter\":") (shown q.url q.delimiter)) =
    rw (c.is_given.ensures, c.as_str-2.ensures.value, c.in_ok-delimiter.ensures, c.as_str.ensures) at c.in_ok-push_given.ensures in
    on_ok_weaker c.push_given-2.result
    (λ url. joined (string_bytes c.args.out.now) (string_bytes c.push_given.new.out) (string_bytes c.push_given-2.new.out) (spec.given_text (is_given q.delimiter) (codes ",\"Delimiter\":") (shown q.url q.delimiter)) (spec.given_text q.url (codes ",\"EncodingType\":") (codes "url")) delimiter url)
    c.push_given-2.ensures
