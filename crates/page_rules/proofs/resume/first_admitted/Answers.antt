use Rattle.std.proofs.Common.{◌≡◌, ◌==◌, false, not, length, Some, sym, ap, ◌∙◌, rules}
use Rattle.std.specs.Option.{option_copied}
use Rattle.key_names.specs.Names.{name_at}
use Rattle.key_names.specs.Ranks.{is_upto_prefix}
use Rattle.bucket_terms.specs.declared.token_point.TokenPoint.TheVariants.{Key, Group}
use Rattle.bucket_terms.specs.Listing.{is_admitted}
use Rattle.page_rules.proofs.NextRank.{upto_flips, group_flips, admitted_after}
use Rattle.page_rules.proofs.resume.first_admitted.Goals as goal

pub returns-in-None-2-clause-first : goal.returns-in-None-2-clause-first
returns-in-None-2-clause-first c rank below =
    let query = c.args.query.now in
    let name = name_at c.args.dir.now rank in
    let some : (length query.start_after == 0) ≡ false = search rules in
    c.after_text.ensures.first rank below ∙ upto_flips name query.start_after
    ∙ sym (ap (λ p. not (is_admitted query (option_copied p) name)) c.in-None-2.is ∙ ap not (admitted_after query name some))

pub returns-in-Some-Key-clause-first : goal.returns-in-Some-Key-clause-first
returns-in-Some-Key-clause-first c rank below =
    let query = c.args.query.now in
    let name = name_at c.args.dir.now rank in
    let is : option_copied c.args.point ≡ Some (Key c.in-Some-Key.key) = search rules in
    c.after_text-in-Some-Key.ensures.first rank below ∙ upto_flips name c.in-Some-Key.key
    ∙ sym (ap (λ p. not (is_admitted query p name)) is)

pub returns-in-Some-Group-clause-first : goal.returns-in-Some-Group-clause-first
returns-in-Some-Group-clause-first c rank below =
    let query = c.args.query.now in
    let name = name_at c.args.dir.now rank in
    let is : option_copied c.args.point ≡ Some (Group c.in-Some-Group.group) = search rules in
    c.past_prefix.ensures.first rank below ∙ ap (is_upto_prefix name) c.bytes-in-Some-Group.ensures.value ∙ group_flips name c.in-Some-Group.group
    ∙ sym (ap (λ p. not (is_admitted query p name)) is)
