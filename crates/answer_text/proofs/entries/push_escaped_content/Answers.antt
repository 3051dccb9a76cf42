use Rattle.std.proofs.Common.{◌≡◌, ◌++◌, codes, decimal, string_bytes}
use Rattle.std.proofs.lemmas.Result.{on_ok_weaker}
use Rattle.json.specs.Print.{quoted}
use Rattle.answer_text.specs.Pieces as spec
use Rattle.answer_text.proofs.Joined.{joined}
use Rattle.answer_text.proofs.entries.push_escaped_content.Goals as goal

pub returns : goal.returns
unfolding spec.content_text
returns c =
    let r = c.args.stored.now in
    let tag : string_bytes c.push_text.new.out ≡ string_bytes c.args.out.now ++ (codes "{\"ETag\":" ++ quoted r.etag) =
    rw c.as_str.ensures at c.in_ok-push_text.ensures in
    on_ok_weaker c.push.result
    (λ end. joined (string_bytes c.args.out.now) (string_bytes c.push_text.new.out) (string_bytes c.push.new.out) ((codes "{\"ETag\":" ++ quoted r.etag)) (((codes ",\"Key\":" ++ quoted c.args.key.now) ++ ((codes ",\"LastModified\":" ++ decimal r.modified) ++ ((codes ",\"Size\":" ++ decimal r.size) ++ codes "}")))) tag (joined (string_bytes c.push_text.new.out) (string_bytes c.push_text-2.new.out) (string_bytes c.push.new.out) ((codes ",\"Key\":" ++ quoted c.args.key.now)) (((codes ",\"LastModified\":" ++ decimal r.modified) ++ ((codes ",\"Size\":" ++ decimal r.size) ++ codes "}"))) c.in_ok-push_text-2.ensures (joined (string_bytes c.push_text-2.new.out) (string_bytes c.push_number.new.out) (string_bytes c.push.new.out) ((codes ",\"LastModified\":" ++ decimal r.modified)) (((codes ",\"Size\":" ++ decimal r.size) ++ codes "}")) c.in_ok-push_number.ensures (joined (string_bytes c.push_number.new.out) (string_bytes c.push_number-2.new.out) (string_bytes c.push.new.out) ((codes ",\"Size\":" ++ decimal r.size)) (codes "}") c.in_ok-push_number-2.ensures end))))
    c.push.ensures
