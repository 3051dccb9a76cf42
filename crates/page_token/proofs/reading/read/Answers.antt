use Rattle.std.proofs.Common.{◌≡◌, Err, sym, ap, ◌∙◌}
use Rattle.std.proofs.lemmas.Result.{err_from_is_err_and}
use Rattle.page_token.specs.declared.token_error.TokenError.TheVariants.{Bad}
use Rattle.bucket_terms.specs.PageParts.{token_bytes}
use Rattle.page_token.proofs.OneTokenLaws.{whole_bytes, has_text, encoded_once, one_token}
use Rattle.page_token.proofs.reading.read.Goals as goal

pub returns-in_err-spelled-clause-bad : goal.returns-in_err-spelled-clause-bad
returns-in_err-spelled-clause-bad c = λ is_bad token of.
    let exit = err_from_is_err_and c.from_residual.result c.from_residual.ensures.1 in
    let given : exit.0 ≡ Bad = cc (sym exit.1 ∙ is_bad) in
    c.in_err-spelled.ensures.bad (ap Err (sym exit.2 ∙ given)) (token_bytes token) (whole_bytes token (has_text token c.args.text.now of)) of.spelled

pub returns-in_err-spelled-clause-one_token : goal.returns-in_err-spelled-clause-one_token
returns-in_err-spelled-clause-one_token c = one_token c.args.text.now

pub returns-clause-bad : goal.returns-clause-bad
returns-clause-bad c = λ is_bad token of.
    let found = c.in_ok-spelled.ensures in
    let has = has_text token c.args.text.now of in
    let same = encoded_once (token_bytes token) c.in_ok-spelled.spelled.items (whole_bytes token has) found.bytes (sym of.spelled ∙ found.ok) in
    c.token_of.ensures.bad is_bad token has (same ∙ sym c.as_slice.ensures.value)

pub returns-clause-one_token : goal.returns-clause-one_token
returns-clause-one_token c = one_token c.args.text.now
