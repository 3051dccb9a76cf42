use Rattle.std.proofs.Common.{◌≡◌, ◌++◌, false, codes, string_bytes}
use Rattle.std.proofs.lemmas.Result.{on_ok_weaker}
use Rattle.std.specs.List.{filter_map}
use Rattle.serde_json.specs.View.{items_of}
use Rattle.serde_json.specs.Written.{items_text}
use Rattle.answer_text.specs.Lines.{content_of, prefix_of}
use Rattle.answer_text.specs.Pieces as spec
use Rattle.answer_text.proofs.Joined.{joined}
use Rattle.answer_text.proofs.listing.push_entries.Goals as goal

pub returns : goal.returns
unfolding spec.entries_text
returns c =
    let dir = c.args.known.now.dir.now in
    let url = c.args.url in
    let entries = c.args.page.now.entries in
    let prefixes : string_bytes c.push_prefixes.new.out ≡ string_bytes c.push.new.out ++ (items_text false (items_of (filter_map (prefix_of dir url) entries))) =
    c.in_ok-push_prefixes.ensures in
    on_ok_weaker c.push_contents.result
    (λ made.
    let contents : string_bytes c.push_contents.new.out ≡ string_bytes c.push-2.new.out ++ items_text false (items_of (filter_map (content_of dir c.args.known.now.records.now url) entries)) = made in
    joined (string_bytes c.args.out.now) (string_bytes c.push.new.out) (string_bytes c.push_contents.new.out) (codes ",\"CommonPrefixes\":[") (((items_text false (items_of (filter_map (prefix_of dir url) entries))) ++ (codes ",\"Contents\":[" ++ (items_text false (items_of (filter_map (content_of dir c.args.known.now.records.now url) entries)))))) c.in_ok-push.ensures (joined (string_bytes c.push.new.out) (string_bytes c.push_prefixes.new.out) (string_bytes c.push_contents.new.out) ((items_text false (items_of (filter_map (prefix_of dir url) entries)))) ((codes ",\"Contents\":[" ++ (items_text false (items_of (filter_map (content_of dir c.args.known.now.records.now url) entries))))) prefixes (joined (string_bytes c.push_prefixes.new.out) (string_bytes c.push-2.new.out) (string_bytes c.push_contents.new.out) (codes ",\"Contents\":[") ((items_text false (items_of (filter_map (content_of dir c.args.known.now.records.now url) entries)))) c.in_ok-push-2.ensures contents)))
    c.push_contents.ensures
