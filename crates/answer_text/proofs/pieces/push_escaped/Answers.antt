use Rattle.std.proofs.Common.{◌≡◌, ap, ◌∙◌, ◌++◌, string_bytes, refl}
use Rattle.std.proofs.lemmas.Result.{on_ok_weaker}
use Rattle.json.specs.Print.{quoted}
use Rattle.serde_json.specs.Data.{string}
use Rattle.serde_json.proofs.FreeTexts.{text_of_value}
use Rattle.answer_text.proofs.pieces.push_escaped.Goals as goal

pub returns : goal.returns
returns c =
    let events = c.in-Ok.ensures.events in
    let text : string_bytes c.in-Ok.quoted ≡ quoted c.args.text.now = text_of_value (string c.args.text.now) events.0 _ events.1 events.2 refl in
    on_ok_weaker c.push.result
    (λ put. put ∙ ap (λ t. string_bytes c.args.out.now ++ t) (c.as_str.ensures.value ∙ text))
    c.push.ensures
