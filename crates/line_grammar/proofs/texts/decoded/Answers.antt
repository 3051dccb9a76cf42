use Rattle.std.proofs.Common.{◌≡◌, ◌∙◌, true, rules}
use Rattle.std.specs.Str.{IsUtf8}
use Rattle.percent_encoding.specs.Percent.{percent_decode}
use Rattle.line_grammar.specs.Texts.{escapes_are_whole}
use Rattle.line_grammar.proofs.TextLaws.{decoded_text, decoded_none}
use Rattle.line_grammar.proofs.texts.decoded.Goals as goal

pub returns-in_ok-into_owned-in-Ok : goal.returns-in_ok-into_owned-in-Ok
returns-in_ok-into_owned-in-Ok c =
    let whole : escapes_are_whole c.args.text.now ≡ true = search rules in
    decoded_text c.args.text.now _ whole (rw c.percent_decode.ensures.bytes at c.in-Ok.ensures.ok_only_if_utf8)
    (c.from_string.ensures ∙ c.in_ok-into_owned-in-Ok.ensures.ok ∙ c.in-Ok.ensures.value ∙ c.percent_decode.ensures.bytes)

pub returns-in-Err-Utf8 : goal.returns-in-Err-Utf8
returns-in-Err-Utf8 c =
    let whole : escapes_are_whole c.args.text.now ≡ true = search rules in
    decoded_none c.args.text.now whole (λ (utf8 : IsUtf8 (percent_decode c.args.text.now)).
    let full = rw c.percent_decode.ensures.bytes at c.in-Err-Utf8.ensures.utf8 in
    let same = full utf8 in cc)
