use Rattle.std.proofs.Common.{◌≡◌, ◌++◌, codes, decimal, string_bytes}
use Rattle.std.proofs.lemmas.Result.{on_ok_weaker}
use Rattle.json.specs.Print.{quoted}
use Rattle.answer_text.specs.Lines.{shown}
use Rattle.answer_text.specs.Pieces as spec
use Rattle.answer_text.proofs.Joined.{joined}
use Rattle.answer_text.proofs.listing_v1.push_size.Goals as goal

pub returns : goal.returns
unfolding spec.v1_size_text
returns c =
    let q = c.args.query.now in
    let line : string_bytes c.push_number.new.out ≡ string_bytes c.push_truth.new.out ++ (codes ",\"Line\":" ++ decimal c.args.placed.now.line) =
    rw c.from.ensures at c.in_ok-push_number.ensures in
    let marker : string_bytes c.push_text.new.out ≡ string_bytes c.push_number.new.out ++ (codes ",\"Marker\":" ++ quoted (shown q.url q.marker)) =
    rw (c.as_str-2.ensures.value, c.in_ok-marker.ensures, c.as_str.ensures) at c.in_ok-push_text.ensures in
    on_ok_weaker c.push_number-2.result
    (λ last.
    let most : string_bytes c.push_number-2.new.out ≡ string_bytes c.push_text.new.out ++ (codes ",\"MaxKeys\":" ++ decimal q.max_keys) = rw c.from-2.ensures at last in
    joined (string_bytes c.args.out.now) (string_bytes c.push_truth.new.out) (string_bytes c.push_number-2.new.out) (codes ",\"IsTruncated\":" ++ spec.truth_text c.args.page.now.truncated) ((codes ",\"Line\":" ++ decimal c.args.placed.now.line) ++ ((codes ",\"Marker\":" ++ quoted (shown q.url q.marker)) ++ (codes ",\"MaxKeys\":" ++ decimal q.max_keys))) c.in_ok-push_truth.ensures (joined (string_bytes c.push_truth.new.out) (string_bytes c.push_number.new.out) (string_bytes c.push_number-2.new.out) (codes ",\"Line\":" ++ decimal c.args.placed.now.line) ((codes ",\"Marker\":" ++ quoted (shown q.url q.marker)) ++ (codes ",\"MaxKeys\":" ++ decimal q.max_keys)) line (joined (string_bytes c.push_number.new.out) (string_bytes c.push_text.new.out) (string_bytes c.push_number-2.new.out) (codes ",\"Marker\":" ++ quoted (shown q.url q.marker)) (codes ",\"MaxKeys\":" ++ decimal q.max_keys) marker most)))
    c.push_number-2.ensures
