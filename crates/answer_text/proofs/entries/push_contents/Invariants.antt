use Rattle.std.proofs.Common.{◌≡◌, ◌++◌, false, drop, string_bytes}
use Rattle.std.specs.List.{filter_map}
use Rattle.serde_json.specs.View.{items_of}
use Rattle.serde_json.specs.Written.{items_text}
use Rattle.answer_text.specs.Lines.{content_of}
use Rattle.answer_text.proofs.entries.push_contents.Given as goal

abbrev pub invariant-loop-place : goal.invariant-loop-place
invariant-loop-place l =
    string_bytes l.out ++ items_text l.later (items_of (filter_map (content_of l.known.dir.now l.known.records.now l.url) (drop l.place l.entries)))
    ≡ string_bytes l.fn.out ++ items_text false (items_of (filter_map (content_of l.known.dir.now l.known.records.now l.url) l.entries))
