use Rattle.std.proofs.Common.{◌≡◌, ap, refl, ◌∙◌, [], ◌∷◌, ◌++◌, string_bytes, lit<}
use Rattle.serde_json.specs.Written.{compact_text}
use Rattle.serde_json.proofs.FreeTexts.{text_of_value}
use Rattle.serve_session.specs.Texts.{summary_data}
use Rattle.serve_session.proofs.summary.summary_line.Goals as goal

pub returns-clause-text : goal.returns-clause-text
returns-clause-text c =
    let d = summary_data c.args.summary.now in
    let events = c.in-Ok.ensures.events in
    let text : string_bytes c.in-Ok.line ≡ compact_text d = text_of_value d events.0 _ events.1 events.2 refl in
    let feed = ap (λ tail. string_bytes c.in-Ok.line ++ tail) (c.push.ensures.ascii (lit< tt)) in
    c.from_string.ensures ∙ c.in_ok-push.ensures.bytes ∙ feed ∙ ap (λ front. front ++ 10 ∷ []) text
