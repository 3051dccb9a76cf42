use Rattle.std.proofs.Common.{◌≡◌, ◌≢◌, ℕ, List, [], length, ap, ◌∙◌, subst, arith}
use Rattle.std.proofs.lemmas.Bool.Decides.{nat_tests}
use Rattle.bucket_terms.specs.Listing.{IsTokenOf}
use Rattle.page_token.specs.OneToken.{HasOneToken}
use Rattle.client_run.proofs.Listings.{start_is}
use Rattle.client_run.proofs.pages.start_of.Goals as goal

pub returns-in-Ok : goal.returns-in-Ok
returns-in-Ok c =
    let token = c.args.query.now.token in
    let given : token ≢ [] = λ (none : token ≡ []). let long : length c.bytes.result.now ≡ 0 = ap length (c.bytes.ensures.value ∙ none) in grind (arith, nat_tests) in
    let one : HasOneToken token = subst HasOneToken c.bytes-2.ensures.value c.read.ensures.one_token in
    let of : IsTokenOf c.in-Ok.token token = subst (λ (text : List ℕ). IsTokenOf c.in-Ok.token text) c.bytes-2.ensures.value c.in-Ok.ensures.token in
    start_is c.args.query.now c.in-Ok.token c.start_behind.result given one of c.start_behind.ensures
