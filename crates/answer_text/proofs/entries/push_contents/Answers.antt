use Rattle.std.proofs.Common.{◌≡◌, List, [], ◌++◌, false, subst, ◌∙◌, string_bytes, arith}
use Rattle.std.proofs.lemmas.List.{drop_all}
use Rattle.std.proofs.lemmas.Result.{on_ok_weaker}
use Rattle.std.specs.List.{filter_map}
use Rattle.serde_json.specs.View.{items_of}
use Rattle.serde_json.specs.Written.{items_text}
use Rattle.bucket_terms.specs.declared.page.PageEntry.{PageEntry}
use Rattle.answer_text.specs.Lines.{content_of}
use Rattle.answer_text.proofs.Elements.{contents_step}
use Rattle.answer_text.proofs.entries.push_contents.Goals as goal

pub loop-place-preserved : goal.loop-place-preserved
loop-place-preserved c =
    contents_step c.args.known.now.dir.now c.args.known.now.records.now c.args.url c.args.entries.now c.loop-place.place c.at-entry.result c.at-entry.result
    c.loop-place.later c.in_ok-later.later (string_bytes c.loop-place.out) (string_bytes c.push_content_of.new.out)
    (omega (arith, c.len-place-end.ensures, c.loop-place-test.true)) c.at-entry.ensures c.in_ok-later.ensures.later c.in_ok-later.ensures.text
    ∙ c.loop-place.invariant

pub returns : goal.returns
returns c =
    let each = content_of c.args.known.now.dir.now c.args.known.now.records.now c.args.url in
    let entries = c.args.entries.now in
    let done = drop_all c.loop-place.place entries (omega (arith, c.len-place-end.ensures, c.loop-place-test.false)) in
    let all : string_bytes c.loop-place.out ++ items_text c.loop-place.later (items_of (filter_map each [])) ≡ string_bytes c.args.out.now ++ items_text false (items_of (filter_map each entries)) =
    subst (λ (es : List PageEntry). string_bytes c.loop-place.out ++ items_text c.loop-place.later (items_of (filter_map each es)) ≡ string_bytes c.args.out.now ++ items_text false (items_of (filter_map each entries))) done c.loop-place.invariant in
    on_ok_weaker c.push.result (λ end. end ∙ all) c.push.ensures
