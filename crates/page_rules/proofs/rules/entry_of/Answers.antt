use Rattle.std.proofs.Common.{[]}
use Rattle.std.specs.Str.{IsUtf8}
use Rattle.std.proofs.Common.{◌≡◌, length, Some, sym, ap, ◌∙◌, arith}
use Rattle.std.proofs.lemmas.Bool.Decides.{nat_tests}
use Rattle.bucket_terms.specs.Listing.{group_len}
use Rattle.bucket_terms.specs.PageInRange.{IsGroupInRange}
use Rattle.key_names.specs.Names.{name_at}
use Rattle.page_rules.proofs.InRange.{whole_group}
use Rattle.page_rules.proofs.rules.entry_of.Goals as goal
use Rattle.page_rules.proofs.rules.entry_of.Goals.{In-Some}

pub key_of-requires-clause-no_delimiter : goal.key_of-requires-clause-no_delimiter
key_of-requires-clause-no_delimiter c =
    let is = ap length c.bytes.ensures.value in
    let empty : length c.bytes.result.now ≡ 0 = grind (arith, nat_tests, c.is_empty.ensures) in
    omega (arith, is, empty)

-- the group is in range
in_range : (c : In-Some) → IsGroupInRange c.args.dir.now c.args.pair.now.key c.in-Some.len
in_range c =
    let pair = c.args.pair.now in
    let query = c.args.query.now in
    let delimiter : IsUtf8 query.delimiter = rw c.bytes.ensures.value at c.bytes.ensures.utf8 in
    let group : group_len query (name_at c.args.dir.now pair.key) ≡ Some c.in-Some.len = sym (c.in-Some.ensures ∙ ap (group_len query) c.name_at.ensures) in
    whole_group c.args.dir.now query pair.key c.in-Some.len c.requires (c.len-names.ensures.fine pair.key [] c.requires).text delimiter group

pub overflow_cast-result : goal.overflow_cast-result
overflow_cast-result c = omega (arith, (in_range c).whole.0, (c.len-names.ensures.fine c.args.pair.now.key [] c.requires).short)

pub returns-in-Some-clause-in_range : goal.returns-in-Some-clause-in_range
returns-in-Some-clause-in_range c = in_range c
