-- Helper: the headline does not rest on this file.
-- Where a listing begins.
use Rattle.std.specs.Prelude.{◌≡◌, ◌≢◌, [], Option, Some, None}
use Rattle.std.specs.Option.{option_map}
use Rattle.bucket_terms.specs.declared.list_query.ListQuery.{ListQuery}
use Rattle.bucket_terms.specs.declared.token_point.TokenPoint.{TokenPoint}
use Rattle.bucket_terms.specs.declared.token.Token.{Token}
use Rattle.bucket_terms.specs.Listing.{IsTokenOf, next_token}
use Rattle.bucket_terms.specs.LegalRun.{Resumed, IsPointOf}
use Rattle.bucket_terms.specs.RunParts.{IsBoundTo}
use Rattle.client_run.specs.declared.pages.Resumption.{Resumption}
use Rattle.client_run.specs.declared.pages.Start.{Start}
use Rattle.client_run.specs.declared.pages.Start.TheVariants.{First, Behind, Bad}

-- what a resumption is in the definitions
abbrev pub resumed : Resumption → Resumed
resumed next = record { query = next.query; point = next.point }

-- after a page that has a point there is a next one
abbrev pub resumed_at : ListQuery → Option TokenPoint → Option Resumed
resumed_at query point = option_map (λ p. record { query = record query { token = next_token query p }; point = p }) point

-- the text is that of no token with which the query continues
pub record IsBadToken (query : ListQuery) : Type 0 where
  pub given : query.token ≢ []
  pub no_token : (token : Token) → IsBoundTo token.bound query → ¬ (IsTokenOf token query.token)

-- where the listing begins according to the query's token
abbrev pub IsStartOf : ListQuery → Start → Type 0
IsStartOf query First = IsPointOf query None
IsStartOf query (Behind point) = IsPointOf query (Some point)
IsStartOf query Bad = IsBadToken query

-- where the listing begins according to a token: after its point, if the query continues with it
abbrev pub IsStartBehind : ListQuery → Token → Start → Type 0
IsStartBehind query token First = ⊥
IsStartBehind query token (Behind point) = (token.point ≡ point) × IsBoundTo token.bound query
IsStartBehind query token Bad = ¬ (IsBoundTo token.bound query)
