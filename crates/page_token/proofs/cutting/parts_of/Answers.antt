use Rattle.std.proofs.Common.{◌++◌, refl, sym, ◌∙◌}
use Rattle.bucket_terms.specs.Listing.{sized}
use Rattle.page_token.proofs.Sized.{sized_once}
use Rattle.page_token.proofs.cutting.parts_of.Goals as goal

pub returns-in_default-cut_sized-clause-none : goal.returns-in_default-cut_sized-clause-none
returns-in_default-cut_sized-clause-none c = λ none prefix delimiter text short_p short_d same.
    let cut = c.in-Some.ensures in
    let parts = sized_once c.in-Some.prefix.now prefix c.in-Some.rest.now (sized delimiter ++ text) cut.short short_p (sym cut.cut ∙ same) in
    c.in_default-cut_sized.ensures.none refl delimiter text short_d parts.1
