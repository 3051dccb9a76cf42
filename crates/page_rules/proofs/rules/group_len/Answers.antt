use Rattle.std.proofs.Common.{◌≡◌, ◌+◌, ◌<◌, length, sym, ap, ◌∙◌, arith}
use Rattle.std.specs.Option.{option_map}
use Rattle.std.proofs.lemmas.Bool.Decides.{nat_tests}
use Rattle.std.proofs.lemmas.List.{take_rest}
use Rattle.page_rules.proofs.FirstEnd.{no_group-without, no_group-short, group_len-found}
use Rattle.page_rules.proofs.rules.group_len.Goals as goal

pub returns-then-is_empty : goal.returns-then-is_empty
returns-then-is_empty c =
    let is = ap length c.bytes-delimiter.ensures.value in
    let empty : length c.bytes-delimiter.result.now ≡ 0 = grind (arith, nat_tests, c.if-is_empty.ensures) in
    sym (no_group-without c.args.query.now c.args.name.now (omega (arith, is, empty)))

pub returns-then-start-name : goal.returns-then-start-name
returns-then-start-name c =
    let is = ap length c.bytes-delimiter.ensures.value in
    let some : 0 < length c.bytes-delimiter.result.now = grind (arith, nat_tests, c.if-is_empty.ensures) in
    let prefix = ap length c.bytes-start.ensures.value in
    sym (no_group-short c.args.query.now c.args.name.now (omega (arith, is, some)) (omega (arith, prefix, c.if-start-name.true)))

pub returns-in_err-at : goal.returns-in_err-at
returns-in_err-at c =
    let is = c.bytes-delimiter.ensures.value in
    let some : 0 < length c.bytes-delimiter.result.now = grind (arith, nat_tests, c.if-is_empty.ensures) in
    let found = rw (c.bytes-start.ensures.value, is) at (rw take_rest at c.find.ensures) in
    c.from_residual.ensures ∙ sym (group_len-found c.args.query.now c.args.name.now c.find.result (rw is at some) found ∙ ap (option_map (λ k. length c.args.query.now.prefix + k + length c.args.query.now.delimiter)) c.in_err-at.was)

pub returns : goal.returns
returns c =
    let is = c.bytes-delimiter.ensures.value in
    let some : 0 < length c.bytes-delimiter.result.now = grind (arith, nat_tests, c.if-is_empty.ensures) in
    let found = rw (c.bytes-start.ensures.value, is) at (rw take_rest at c.find.ensures) in
    rw (c.bytes-start.ensures.value, is) (sym (group_len-found c.args.query.now c.args.name.now c.find.result (rw is at some) found ∙ ap (option_map (λ k. length c.args.query.now.prefix + k + length c.args.query.now.delimiter)) c.in_ok-at.was))
