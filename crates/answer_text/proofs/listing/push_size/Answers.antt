use Rattle.std.proofs.Common.{◌≡◌, ◌++◌, length, codes, decimal, string_bytes}
use Rattle.std.proofs.lemmas.Result.{on_ok_weaker}
use Rattle.answer_text.specs.Pieces as spec
use Rattle.answer_text.proofs.Joined.{joined}
use Rattle.answer_text.proofs.listing.push_size.Goals as goal

pub returns : goal.returns
unfolding spec.size_text
returns c =
    let count : string_bytes c.push_number.new.out ≡ string_bytes c.push_truth.new.out ++ (codes ",\"KeyCount\":" ++ decimal (length c.args.page.now.entries)) =
    rw c.len.ensures at c.in_ok-push_number.ensures in
    let line : string_bytes c.push_number-2.new.out ≡ string_bytes c.push_number.new.out ++ (codes ",\"Line\":" ++ decimal c.args.placed.now.line) =
    rw c.from.ensures at c.in_ok-push_number-2.ensures in
    on_ok_weaker c.push_number-3.result
    (λ last.
    let most : string_bytes c.push_number-3.new.out ≡ string_bytes c.push_number-2.new.out ++ (codes ",\"MaxKeys\":" ++ decimal c.args.query.now.max_keys) = rw c.from-2.ensures at last in
    joined (string_bytes c.args.out.now) (string_bytes c.push_truth.new.out) (string_bytes c.push_number-3.new.out) ((codes ",\"IsTruncated\":" ++ spec.truth_text c.args.page.now.truncated)) (((codes ",\"KeyCount\":" ++ decimal (length c.args.page.now.entries)) ++ ((codes ",\"Line\":" ++ decimal c.args.placed.now.line) ++ (codes ",\"MaxKeys\":" ++ decimal c.args.query.now.max_keys)))) c.in_ok-push_truth.ensures (joined (string_bytes c.push_truth.new.out) (string_bytes c.push_number.new.out) (string_bytes c.push_number-3.new.out) ((codes ",\"KeyCount\":" ++ decimal (length c.args.page.now.entries))) (((codes ",\"Line\":" ++ decimal c.args.placed.now.line) ++ (codes ",\"MaxKeys\":" ++ decimal c.args.query.now.max_keys))) count (joined (string_bytes c.push_number.new.out) (string_bytes c.push_number-2.new.out) (string_bytes c.push_number-3.new.out) ((codes ",\"Line\":" ++ decimal c.args.placed.now.line)) ((codes ",\"MaxKeys\":" ++ decimal c.args.query.now.max_keys)) line most)))
    c.push_number-3.ensures
