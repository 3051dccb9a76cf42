-- Helper: the headline does not rest on this file.
-- What a listing over a pass has done, by what the pass knows before and after.
use Rattle.std.specs.Prelude.{◌≡◌, ℕ, ◌≤◌, List, Option, None, Some}
use Rattle.key_map.specs.History.{after}
use Rattle.bucket_terms.specs.declared.list_query.ListQuery.{ListQuery}
use Rattle.bucket_terms.specs.declared.v1_query.V1Query.{V1Query}
use Rattle.bucket_terms.specs.declared.token_point.TokenPoint.{TokenPoint}
use Rattle.bucket_terms.specs.declared.page.Page.{Page}
use Rattle.bucket_terms.specs.declared.reply.Reply.{Reply}
use Rattle.bucket_terms.specs.declared.reply.Reply.TheVariants.{Listed, ListedV1}
use Rattle.bucket_terms.specs.declared.reply.Placed.{Placed}
use Rattle.bucket_terms.specs.Listing.{page_of}
use Rattle.bucket_terms.specs.PageInRange.{IsInRange}
use Rattle.bucket_terms.specs.PassView.{PassView, KnowsOwn, Looked, RoseByOne, Extends}

-- the page is the map's at the place of one look, which `found` has
pub record ListedAt (dir : List (List ℕ)) (query : ListQuery) (point : Option TokenPoint) (old new : PassView) (at : ℕ) (page : Page) : Type 0 where
  pub looked : Looked old new at
  pub looks : RoseByOne old.looks new.looks
  pub is_page : page ≡ page_of dir query point (after new.seen at)
  pub in_range : IsInRange dir page

-- the pass has at most looked, and learned of more updates
pub record LookedOnly (old new : PassView) : Type 0 where
  pub closed : new.opened ≡ None
  pub number : new.number ≡ old.number
  pub seen : Extends old.seen new.seen
  pub looks : old.looks ≤ new.looks
  pub mine : new.mine ≡ old.mine
  pub left : new.left ≡ old.left
  pub nodes : new.nodes ≡ old.nodes
  pub entries : new.entries ≡ old.entries

-- a listed page is in range
abbrev pub HasPageInRange : List (List ℕ) → Reply → Type 0
HasPageInRange dir (Listed query page) = IsInRange dir page
HasPageInRange dir (ListedV1 query page) = IsInRange dir page
HasPageInRange dir reply = Unit {0}

-- the reply is the page of this query and from this point
pub record ListedAs (dir : List (List ℕ)) (query : ListQuery) (point : Option TokenPoint) (line : ℕ) (old new : PassView) (placed : Placed) : Type 0 where
  pub knew : KnowsOwn old
  pub at : ℕ
  pub page : Page
  pub reply_is : placed ≡ record { client = old.number; line = line; at = Some at; reply = Listed query page }
  pub listed : ListedAt dir query point old new at page
  pub closed : new.opened ≡ None

-- the reply shows this query of version 1, and the page of the plain query and from this point
pub record ListedV1As (dir : List (List ℕ)) (shown : V1Query) (plain : ListQuery) (point : Option TokenPoint) (line : ℕ) (old new : PassView) (placed : Placed) : Type 0 where
  pub knew : KnowsOwn old
  pub at : ℕ
  pub page : Page
  pub reply_is : placed ≡ record { client = old.number; line = line; at = Some at; reply = ListedV1 shown page }
  pub listed : ListedAt dir plain point old new at page
  pub closed : new.opened ≡ None
