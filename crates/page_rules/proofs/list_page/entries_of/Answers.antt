use Rattle.std.proofs.Common.{rules, ap, ◌∙◌}
use Rattle.std.specs.List.{dedup}
use Rattle.std.proofs.lemmas.Fn.{dedup_same}
use Rattle.bucket_terms.specs.Listing.{entries_of, is_same_group}
use Rattle.bucket_terms.specs.PageParts.{listing}
use Rattle.page_rules.proofs.list_page.entries_of.Goals as goal

pub returns : goal.returns
unfolding entries_of listing
returns c =
    let same = is_same_group c.args.dir.now in
    dedup_same _ same _ (λ x y b f x' y' k. search rules) _ _ c.dedup_by.ensures.filtered ∙ ap (dedup same) c.in_ok-entries.ensures
