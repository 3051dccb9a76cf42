use Rattle.std.proofs.Common.{◌++◌, string_bytes}
use Rattle.std.proofs.lemmas.Result.{on_ok_weaker}
use Rattle.answer_text.specs.Shown.{v1_shown}
use Rattle.answer_text.specs.Pieces as spec
use Rattle.answer_text.proofs.Joined.{joined}
use Rattle.answer_text.proofs.listing_v1.push_v1_listing.Goals as goal

pub returns : goal.returns
unfolding spec.v1_text
returns c =
    let placed = c.args.placed.now in
    let q = c.args.query.now in
    let shown = v1_shown c.args.known.now.dir.now c.args.known.now.records.now q c.args.page.now in
    on_ok_weaker c.push_bounds.result
    (λ bounds. joined (string_bytes c.args.out.now) (string_bytes c.push_start.new.out) (string_bytes c.push_bounds.new.out) (spec.start_text placed.at placed.client) ((spec.entries_text shown.prefixes shown.contents) ++ ((spec.v1_asked_text q shown.delimiter) ++ ((spec.v1_size_text placed.line q shown.truncated shown.marker) ++ (spec.v1_bounds_text shown.next shown.prefix)))) c.in_ok-push_start.ensures (joined (string_bytes c.push_start.new.out) (string_bytes c.push_entries.new.out) (string_bytes c.push_bounds.new.out) (spec.entries_text shown.prefixes shown.contents) ((spec.v1_asked_text q shown.delimiter) ++ ((spec.v1_size_text placed.line q shown.truncated shown.marker) ++ (spec.v1_bounds_text shown.next shown.prefix))) c.in_ok-push_entries.ensures (joined (string_bytes c.push_entries.new.out) (string_bytes c.push_asked.new.out) (string_bytes c.push_bounds.new.out) (spec.v1_asked_text q shown.delimiter) ((spec.v1_size_text placed.line q shown.truncated shown.marker) ++ (spec.v1_bounds_text shown.next shown.prefix)) c.in_ok-push_asked.ensures (joined (string_bytes c.push_asked.new.out) (string_bytes c.push_size.new.out) (string_bytes c.push_bounds.new.out) (spec.v1_size_text placed.line q shown.truncated shown.marker) (spec.v1_bounds_text shown.next shown.prefix) c.in_ok-push_size.ensures bounds))))
    c.push_bounds.ensures
