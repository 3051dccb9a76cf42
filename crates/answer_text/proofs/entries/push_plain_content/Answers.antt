use Rattle.std.proofs.Common.{◌≡◌, ap, ◌∙◌, ◌++◌, codes, string_bytes}
use Rattle.std.proofs.lemmas.Result.{on_ok_weaker}
use Rattle.answer_text.specs.Pieces.{behind_key_text}
use Rattle.answer_text.proofs.Joined.{joined}
use Rattle.answer_text.proofs.Quotes.{plain_content}
use Rattle.answer_text.proofs.entries.push_plain_content.Goals as goal

pub returns : goal.returns
returns c =
    let r = c.args.stored.now in
    let key = c.args.key.now in
    let behind = behind_key_text r.modified r.size in
    let tag : string_bytes c.push-2.new.out ≡ string_bytes c.push.new.out ++ r.etag = rw c.as_str.ensures at c.in_ok-push-2.ensures in
    on_ok_weaker c.push_behind_key.result
    (λ end.
    joined (string_bytes c.args.out.now) (string_bytes c.push.new.out) (string_bytes c.push_behind_key.new.out) (codes "{\"ETag\":\"") (r.etag ++ (codes "\",\"Key\":\"" ++ (key ++ behind))) c.in_ok-push.ensures
    (joined (string_bytes c.push.new.out) (string_bytes c.push-2.new.out) (string_bytes c.push_behind_key.new.out) r.etag (codes "\",\"Key\":\"" ++ (key ++ behind)) tag
    (joined (string_bytes c.push-2.new.out) (string_bytes c.push-3.new.out) (string_bytes c.push_behind_key.new.out) (codes "\",\"Key\":\"") (key ++ behind) c.in_ok-push-3.ensures
    (joined (string_bytes c.push-3.new.out) (string_bytes c.push-4.new.out) (string_bytes c.push_behind_key.new.out) key behind c.in_ok-push-4.ensures end)))
    ∙ ap (λ t. string_bytes c.args.out.now ++ t) (plain_content key r c.requires.tag c.requires.key))
    c.push_behind_key.ensures
