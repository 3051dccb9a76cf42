use Rattle.std.proofs.Common.{◌≡◌, ◌++◌, codes, string_bytes}
use Rattle.std.proofs.lemmas.Result.{on_ok_weaker}
use Rattle.std.specs.Option.{option_map}
use Rattle.json.specs.Print.{quoted}
use Rattle.bucket_terms.specs.Listing.{next_marker}
use Rattle.answer_text.specs.Lines.{shown}
use Rattle.answer_text.specs.Pieces as spec
use Rattle.answer_text.proofs.Joined.{joined}
use Rattle.answer_text.proofs.listing_v1.push_bounds.Goals as goal

pub returns : goal.returns
unfolding spec.v1_bounds_text
returns c =
    let q = c.args.query.now in
    let next = option_map (shown q.url) (next_marker c.args.dir.now q c.args.page.now) in
    let prefix : string_bytes c.push_text.new.out ≡ string_bytes c.push_next.new.out ++ (codes ",\"Prefix\":" ++ quoted (shown q.url q.prefix)) =
    rw (c.as_str-2.ensures.value, c.in_ok-prefix.ensures, c.as_str.ensures) at c.in_ok-push_text.ensures in
    on_ok_weaker c.push.result
    (λ end. joined (string_bytes c.args.out.now) (string_bytes c.push_next.new.out) (string_bytes c.push.new.out) (spec.next_text next) ((codes ",\"Prefix\":" ++ quoted (shown q.url q.prefix)) ++ (codes ",\"Status\":200}\n")) c.in_ok-push_next.ensures (joined (string_bytes c.push_next.new.out) (string_bytes c.push_text.new.out) (string_bytes c.push.new.out) (codes ",\"Prefix\":" ++ quoted (shown q.url q.prefix)) (codes ",\"Status\":200}\n") prefix end))
    c.push.ensures
