use Rattle.std.proofs.Common.{◌≡◌, Err, sym, ap, ◌∙◌}
use Rattle.std.proofs.lemmas.Result.{err_from_is_err_and}
use Rattle.page_token.specs.declared.token_error.TokenError.TheVariants.{Bad}
use Rattle.page_token.proofs.OneTokenLaws.{parts_told}
use Rattle.page_token.proofs.reading.bound_token.Goals as goal

pub returns-in_err-point-clause-bad : goal.returns-in_err-point-clause-bad
returns-in_err-point-clause-bad c = λ is_bad token has same.
    let exit = err_from_is_err_and c.from_residual.result c.from_residual.ensures.1 in
    let given : exit.0 ≡ Bad = cc (sym exit.1 ∙ is_bad) in
    let p = c.in-Some.parts in
    let cut = c.in-Some.ensures in
    let told = parts_told token c.args.letter c.args.bytes.now p.prefix.now p.delimiter.now p.text.now has cut.prefix cut.delimiter cut.parts same in
    c.in_err-point.ensures.bad (ap Err (sym exit.2 ∙ given)) token.point has.fine told.letter_is told.text_is

pub returns-in_err-prefix-clause-bad : goal.returns-in_err-prefix-clause-bad
returns-in_err-prefix-clause-bad c = λ is_bad token has same.
    let exit = err_from_is_err_and c.from_residual-in_err-prefix.result c.from_residual-in_err-prefix.ensures.1 in
    let given : exit.0 ≡ Bad = cc (sym exit.1 ∙ is_bad) in
    let p = c.in-Some.parts in
    let cut = c.in-Some.ensures in
    let told = parts_told token c.args.letter c.args.bytes.now p.prefix.now p.delimiter.now p.text.now has cut.prefix cut.delimiter cut.parts same in
    c.in_err-prefix.ensures.bad (ap Err (sym exit.2 ∙ given)) told.short_prefix

pub returns-in_err-delimiter-clause-bad : goal.returns-in_err-delimiter-clause-bad
returns-in_err-delimiter-clause-bad c = λ is_bad token has same.
    let exit = err_from_is_err_and c.from_residual-in_err-delimiter.result c.from_residual-in_err-delimiter.ensures.1 in
    let given : exit.0 ≡ Bad = cc (sym exit.1 ∙ is_bad) in
    let p = c.in-Some.parts in
    let cut = c.in-Some.ensures in
    let told = parts_told token c.args.letter c.args.bytes.now p.prefix.now p.delimiter.now p.text.now has cut.prefix cut.delimiter cut.parts same in
    c.in_err-delimiter.ensures.bad (ap Err (sym exit.2 ∙ given)) told.short_delimiter
