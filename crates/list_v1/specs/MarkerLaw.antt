-- The law of markers: pages that follow each other's markers give all entries of a query, each once (Amazon S3 API
-- reference, ListObjects: `IsTruncated`, `NextMarker`).
use Rattle.std.specs.Prelude.{◌≡◌, ℕ, ◌<◌, true, MatchBool, MatchOption, List, [], ◌∷◌, ◌++◌}
use Rattle.key_map.specs.declared.pair.Pair.{Pair}
use Rattle.bucket_terms.specs.declared.v1_query.V1Query.{V1Query}
use Rattle.bucket_terms.specs.declared.page.Page.{Page}
use Rattle.bucket_terms.specs.Listing.{entries_of, plain, marker_point, v1_page}
use Rattle.bucket_terms.specs.PageParts.{last_text}
use Rattle.page_rules.specs.PageLaw.{AreAllEntries, all_entries}

-- the same query from another marker
abbrev pub from_marker : V1Query → List ℕ → V1Query
from_marker query marker = record query { marker = marker }

-- a truncated page has a last entry; the page's entries, followed by those from the marker that is that entry's text,
-- are the entries of the query
abbrev pub LeavesTheRest : List (List ℕ) → V1Query → List Pair → Page → Type 0
LeavesTheRest dir query m page =
    page.truncated ≡ true → MatchOption (last_text dir page) ⊥
    (λ text. page.entries ++ entries_of dir (plain query) (marker_point (from_marker query text)) m ≡ entries_of dir (plain query) (marker_point query) m)

-- pages over one map, each from the marker that is the text of the last entry of the page before, up to a page that is
-- not truncated
abbrev pub AreChained : List (List ℕ) → List Pair → V1Query → List Page → Type 0
AreChained dir m query [] = ⊥
AreChained dir m query (page ∷ pages) =
    (page ≡ v1_page dir query m)
    × MatchBool page.truncated (MatchOption (last_text dir page) ⊥ (λ text. AreChained dir m (from_marker query text) pages)) (pages ≡ [])

-- where the page is the first of chained pages, they give all entries, each once
abbrev pub BeginsAll : List (List ℕ) → V1Query → List Pair → Page → Type 0
BeginsAll dir query m page =
    0 < query.max_keys → (pages : List Page) → AreChained dir m query (page ∷ pages)
    → AreAllEntries dir (plain query) (marker_point query) m (all_entries (page ∷ pages))
