use Rattle.std.proofs.Common.{◌≡◌, ◌++◌, codes, decimal, string_bytes}
use Rattle.std.proofs.lemmas.Result.{on_ok_weaker}
use Rattle.json.specs.Print.{quoted}
use Rattle.answer_text.specs.Pieces as spec
use Rattle.answer_text.proofs.Joined.{joined}
use Rattle.answer_text.proofs.replies.push_found.Goals as goal

pub returns : goal.returns
unfolding spec.found_text spec.found_end_text
returns c =
    let placed = c.args.placed.now in
    let r = c.args.stored.now in
    let behind = spec.found_end_text placed.line r.size in
    let tag : string_bytes c.push_text.new.out ≡ string_bytes c.push_start.new.out ++ (codes ",\"ETag\":" ++ quoted r.etag) =
    rw c.as_str.ensures at c.in_ok-push_text.ensures in
    on_ok_weaker c.push_found_end.result
    (λ end.
    joined (string_bytes c.args.out.now) (string_bytes c.push_start.new.out) (string_bytes c.push_found_end.new.out) (spec.start_text placed.at placed.client) ((codes ",\"ETag\":" ++ quoted r.etag) ++ ((codes ",\"LastModified\":" ++ decimal r.modified) ++ behind)) c.in_ok-push_start.ensures
    (joined (string_bytes c.push_start.new.out) (string_bytes c.push_text.new.out) (string_bytes c.push_found_end.new.out) (codes ",\"ETag\":" ++ quoted r.etag) ((codes ",\"LastModified\":" ++ decimal r.modified) ++ behind) tag
    (joined (string_bytes c.push_text.new.out) (string_bytes c.push_number.new.out) (string_bytes c.push_found_end.new.out) (codes ",\"LastModified\":" ++ decimal r.modified) behind c.in_ok-push_number.ensures end)))
    c.push_found_end.ensures
