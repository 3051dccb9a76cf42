-- The answers of LIST, LISTV1 and NEXT.
use Rattle.std.proofs.Common.{◌≡◌, ◌≢◌, ℕ, [], List, Option, Some, None, refl, sym, ap, ◌∙◌, subst}
use Rattle.bucket_terms.specs.declared.list_query.ListQuery.{ListQuery}
use Rattle.bucket_terms.specs.declared.v1_query.V1Query.{V1Query}
use Rattle.bucket_terms.specs.declared.token_point.TokenPoint.{TokenPoint}
use Rattle.bucket_terms.specs.declared.request.Request.{Request}
use Rattle.bucket_terms.specs.declared.request.Request.TheVariants.{List as ListRequest, ListV1, Next}
use Rattle.bucket_terms.specs.declared.reply.Reply.{Reply}
use Rattle.bucket_terms.specs.declared.reply.Reply.TheVariants.{Listed, ListedV1, BadToken}
use Rattle.bucket_terms.specs.declared.reply.Placed.{Placed}
use Rattle.bucket_terms.specs.declared.token.Token.{Token}
use Rattle.bucket_terms.specs.Listing.{IsTokenOf, page_of, plain, marker_point}
use Rattle.page_token.specs.OneToken.{HasOneToken}
use Rattle.bucket_terms.specs.PassView.{PassView, KnowsOwn}
use Rattle.bucket_terms.specs.LegalRun.{Resumed, IsPointOf, IsRight, next_of}
use Rattle.bucket_terms.specs.RunParts.{IsBoundTo}
use Rattle.key_map.specs.History.{after}
use Rattle.client_run.specs.ClientRun.{setting, answered, Answers}
use Rattle.client_run.specs.Listing.{ListedAs, ListedV1As, HasPageInRange}
use Rattle.client_run.specs.declared.pages.Start.{Start}
use Rattle.client_run.specs.declared.pages.Start.TheVariants.{First, Behind, Bad}
use Rattle.client_run.specs.Starts.{IsBadToken, IsStartOf, IsStartBehind}
use Rattle.client_run.proofs.Steps.{step_looked, step_refused}

-- a page was listed, and it is right for the request
listed_answers : (dir : List (List ℕ)) (query : ListQuery) (point : Option TokenPoint) (line : ℕ) (old new : PassView) (last : Option Reply) (request : Request) (placed : Placed)
    → (is : ListedAs dir query point line old new placed)
    → ((slots : ℕ) → IsRight (setting dir new slots) last (record { line = line; request = request }) (Some is.at) (Listed query is.page))
    → Answers dir old new last (answered line request placed)
listed_answers dir query point line old new last request placed is right =
    subst (λ (p : Placed). Answers dir old new last (answered line request p)) (sym is.reply_is)
    (step_looked dir old new last line is.at request (Listed query is.page) is.knew is.listed.looked is.closed right (λ e. cc) refl is.listed.looks)

pub list_answers : (dir : List (List ℕ)) (asked query : ListQuery) (point : Option TokenPoint) (line : ℕ) (old new : PassView) (last : Option Reply) (placed : Placed)
    → query ≡ asked → IsPointOf asked point → ListedAs dir query point line old new placed
    → Answers dir old new last (answered line (ListRequest asked) placed)
list_answers dir asked query point line old new last placed same from_token is =
    listed_answers dir query point line old new last (ListRequest asked) placed is
    (λ slots. (point, (from_token, (same, is.listed.is_page ∙ ap (λ (q : ListQuery). page_of dir q point (after new.seen is.at)) same))))

pub next_answers : (dir : List (List ℕ)) (next : Resumed) (line : ℕ) (old new : PassView) (last : Option Reply) (placed : Placed)
    → next_of dir last ≡ Some next → ListedAs dir next.query (Some next.point) line old new placed
    → Answers dir old new last (answered line Next placed)
next_answers dir next line old new last placed follows is =
    listed_answers dir next.query (Some next.point) line old new last Next placed is
    (λ slots. (next, (follows, (refl, is.listed.is_page))))

pub v1_answers : (dir : List (List ℕ)) (asked shown : V1Query) (query : ListQuery) (point : Option TokenPoint) (line : ℕ) (old new : PassView) (last : Option Reply) (placed : Placed)
    → shown ≡ asked → query ≡ plain asked → point ≡ marker_point asked → ListedV1As dir shown query point line old new placed
    → Answers dir old new last (answered line (ListV1 asked) placed)
v1_answers dir asked shown query point line old new last placed same is_plain is_marker is =
    let page_is = is.listed.is_page
    ∙ ap (λ (q : ListQuery). page_of dir q point (after new.seen is.at)) is_plain
    ∙ ap (λ (o : Option TokenPoint). page_of dir (plain asked) o (after new.seen is.at)) is_marker in
    subst (λ (p : Placed). Answers dir old new last (answered line (ListV1 asked) p)) (sym is.reply_is)
    (step_looked dir old new last line is.at (ListV1 asked) (ListedV1 shown is.page) is.knew is.listed.looked is.closed (λ slots. (same, page_is)) (λ e. cc) refl is.listed.looks)

pub v1_in_range : (dir : List (List ℕ)) (shown : V1Query) (query : ListQuery) (point : Option TokenPoint) (line : ℕ) (old new : PassView) (placed : Placed)
    → ListedV1As dir shown query point line old new placed → HasPageInRange dir placed.reply
v1_in_range dir shown query point line old new placed is = subst (λ (p : Placed). HasPageInRange dir p.reply) (sym is.reply_is) is.listed.in_range

-- a text that is no token of this listing matches neither a point nor the lack of one
pub no_point : (query : ListQuery) → IsBadToken query → (point : Option TokenPoint) → ¬ (IsPointOf query point)
no_point query bad None = bad.given
no_point query bad (Some point) = λ from. bad.no_token (record { point = point; bound = from.0 }) from.1.0 from.1.1

-- the listing begins where its one token says
pub start_is : (query : ListQuery) (token : Token) (start : Start) → query.token ≢ [] → HasOneToken query.token → IsTokenOf token query.token
    → IsStartBehind query token start → IsStartOf query start
start_is query token First given one of behind = absurd behind
start_is query token (Behind point) given one of behind =
    (token.bound, (behind.1, subst (λ (p : TokenPoint). IsTokenOf (record { point = p; bound = token.bound }) query.token) behind.0 of))
start_is query token Bad given one of behind = record {
  given = given;
  no_token = λ other to other_of. behind (subst (λ (t : Token). IsBoundTo t.bound query) (one other token other_of of) to);
}

pub bad_answers : (dir : List (List ℕ)) (pass : PassView) (last : Option Reply) (line : ℕ) (request : Request)
    → KnowsOwn pass → pass.opened ≡ None
    → ((slots : ℕ) → IsRight (setting dir pass slots) last (record { line = line; request = request }) None BadToken)
    → Answers dir pass pass last (answered line request (record { client = pass.number; line = line; at = None; reply = BadToken }))
bad_answers dir pass last line request knows closed right =
    step_refused dir pass pass last line request BadToken knows refl closed (λ slots enough. right slots) (λ e. cc) refl refl
