use Rattle.std.proofs.Common.{◌≡◌, ℕ, List, Contains, Option, Some, map, refl, sym, ap, ◌∙◌, subst, arith}
use Rattle.std.specs.List.{slice_get}
use Rattle.std.specs.Option.{IfSome, MatchOption}
use Rattle.std.proofs.lemmas.Option.{same_Some, slice_get_within, get_or_from_slice_get}
use Rattle.key_names.specs.Names.{IsRank}
use Rattle.bucket_terms.specs.LegalRun.{RequestLine, AskedChange, asked_change}
use Rattle.request_lines.specs.Session.{request_line}
use Rattle.request_lines.specs.SessionLaws.{IsAskable}
use Rattle.replay_check.specs.Telling.{IsToldBy}
use Rattle.replay_check.proofs.ClientLines.{line_there, none_made, change_named}
use Rattle.replay_check.proofs.journal.update_in.Goals as goal

pub returns-then-from-line : goal.returns-then-from-line
returns-then-from-line c =
    let lines = map request_line c.args.part.now.requests in
    let asked = c.in_ok-asked.asked.now in
    let here : slice_get lines c.place_of-request.result ≡ Some (request_line asked) =
    line_there c.as_slice.result.now c.args.part.now.requests c.place_of-request.result asked c.as_slice.ensures c.in_ok-asked.ensures.lookup.3 in
    none_made c.args.dir.now lines c.args.line c.place_of-request.result c.requires.rising c.place_of-request.ensures
    (λ l there same. absurd (c.if-from-line.true (c.from.ensures ∙ ap (λ (m : RequestLine). m.line) (same_Some (request_line asked) l (sym here ∙ there)) ∙ same)))

pub returns-in_err-name : goal.returns-in_err-name
returns-in_err-name c =
    let lines = map request_line c.args.part.now.requests in
    let asked = c.in_ok-asked.asked.now in
    let here : slice_get lines c.place_of-request.result ≡ Some (request_line asked) =
    line_there c.as_slice.result.now c.args.part.now.requests c.place_of-request.result asked c.as_slice.ensures c.in_ok-asked.ensures.lookup.3 in
    subst (IsToldBy c.args.dir.now lines c.args.client c.args.line) (sym c.from_residual-in_err-name.ensures)
    (none_made c.args.dir.now lines c.args.line c.place_of-request.result c.requires.rising c.place_of-request.ensures
    (λ l there same. ap (λ (m : RequestLine). asked_change m.request) (same_Some l (request_line asked) (sym there ∙ here)) ∙ sym c.in_err-name.ensures))

pub rank_of-key-requires : goal.rank_of-key-requires
rank_of-key-requires c =
    let lines = map request_line c.args.part.now.requests in
    let asked = c.in_ok-asked.asked.now in
    let place = c.place_of-request.result in
    let here : slice_get lines place ≡ Some (request_line asked) =
    line_there c.as_slice.result.now c.args.part.now.requests place asked c.as_slice.ensures c.in_ok-asked.ensures.lookup.3 in
    let known : IsAskable c.args.dir.now (request_line asked) =
    subst (IsAskable c.args.dir.now) (get_or_from_slice_get lines place (request_line asked) (request_line asked) here)
    (c.requires.known place (request_line asked) (slice_get_within lines place (request_line asked) here)) in
    subst (λ (o : Option (List ℕ)). IfSome o (Contains c.args.dir.now)) (change_named asked.request _ (sym c.in_ok-name.ensures)) known

pub returns : goal.returns
returns c =
    let lines = map request_line c.args.part.now.requests in
    let asked = c.in_ok-asked.asked.now in
    let place = c.place_of-request.result in
    record {
      client_is = refl;
      line_is = sym c.from.ensures ∙ omega (arith, c.if-from-line.false);
      asked = request_line asked;
      asked_is = line_there c.as_slice.result.now c.args.part.now.requests place asked c.as_slice.ensures c.in_ok-asked.ensures.lookup.3;
      makes = (refl, subst (λ (o : Option AskedChange). MatchOption o ⊥ (λ (a : AskedChange). IsRank c.args.dir.now a.name c.rank_of-key.result × (c.in_ok-name.change ≡ a.change))) c.in_ok-name.ensures (c.rank_of-key.ensures, refl));
    }
