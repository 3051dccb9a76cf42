use Rattle.std.proofs.Common.{◌≡◌, ◌++◌, codes, string_bytes}
use Rattle.std.proofs.lemmas.Result.{on_ok_weaker}
use Rattle.json.specs.Print.{quoted}
use Rattle.bucket_terms.specs.Listing.{page_point}
use Rattle.answer_text.specs.Lines.{shown, is_given}
use Rattle.answer_text.specs.Shown.{point_token}
use Rattle.answer_text.specs.Pieces as spec
use Rattle.answer_text.proofs.Joined.{joined}
use Rattle.answer_text.proofs.listing.push_bounds.Goals as goal

pub returns : goal.returns
unfolding spec.bounds_text
returns c =
    let q = c.args.query.now in
    let next : string_bytes c.push_given.new.out ≡ string_bytes c.args.out.now ++ (spec.given_text c.args.page.now.truncated (codes ",\"NextContinuationToken\":") (point_token q (page_point c.args.dir.now c.args.page.now))) =
    rw (c.as_str-3.ensures, c.in_ok-next.ensures) at c.in_ok-push_given.ensures in
    let prefix : string_bytes c.push_text.new.out ≡ string_bytes c.push_given.new.out ++ (codes ",\"Prefix\":" ++ quoted (shown q.url q.prefix)) =
    rw (c.as_str-4.ensures.value, c.in_ok-prefix.ensures, c.as_str.ensures) at c.in_ok-push_text.ensures in
    let start_after : string_bytes c.push_given-2.new.out ≡ string_bytes c.push_text.new.out ++ (spec.given_text (is_given q.start_after) (codes ",\"StartAfter\":") (shown q.url q.start_after)) =
    rw (c.is_given.ensures, c.as_str-5.ensures.value, c.in_ok-start_after.ensures, c.as_str-2.ensures) at c.in_ok-push_given-2.ensures in
    on_ok_weaker c.push.result
    (λ end. joined (string_bytes c.args.out.now) (string_bytes c.push_given.new.out) (string_bytes c.push.new.out) ((spec.given_text c.args.page.now.truncated (codes ",\"NextContinuationToken\":") (point_token q (page_point c.args.dir.now c.args.page.now)))) (((codes ",\"Prefix\":" ++ quoted (shown q.url q.prefix)) ++ ((spec.given_text (is_given q.start_after) (codes ",\"StartAfter\":") (shown q.url q.start_after)) ++ codes ",\"Status\":200}\n"))) next (joined (string_bytes c.push_given.new.out) (string_bytes c.push_text.new.out) (string_bytes c.push.new.out) ((codes ",\"Prefix\":" ++ quoted (shown q.url q.prefix))) (((spec.given_text (is_given q.start_after) (codes ",\"StartAfter\":") (shown q.url q.start_after)) ++ codes ",\"Status\":200}\n")) prefix (joined (string_bytes c.push_text.new.out) (string_bytes c.push_given-2.new.out) (string_bytes c.push.new.out) ((spec.given_text (is_given q.start_after) (codes ",\"StartAfter\":") (shown q.url q.start_after))) (codes ",\"Status\":200}\n") start_after end)))
    c.push.ensures
