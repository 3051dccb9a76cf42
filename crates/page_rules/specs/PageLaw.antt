-- Helper: the headline does not rest on this file.
-- The law of pages: pages that go on from each other's points give all entries of a query, each once
-- (Amazon S3 API reference, ListObjectsV2: `IsTruncated`, `NextContinuationToken`).
use Rattle.std.specs.Prelude.{◌≡◌, ℕ, ◌<◌, true, MatchBool, List, [], ◌∷◌, ◌++◌, AllPairs, Option}
use Rattle.std.specs.List.{flat_map}
use Rattle.key_names.specs.Names.{name_at}
use Rattle.key_map.specs.declared.pair.Pair.{Pair}
use Rattle.bucket_terms.specs.declared.list_query.ListQuery.{ListQuery}
use Rattle.bucket_terms.specs.declared.token_point.TokenPoint.{TokenPoint}
use Rattle.bucket_terms.specs.declared.page.PageEntry.{PageEntry}
use Rattle.bucket_terms.specs.declared.page.PageEntry.TheVariants.{Key, Group}
use Rattle.bucket_terms.specs.declared.page.Page.{Page}
use Rattle.bucket_terms.specs.Listing.{is_above, group_text, entries_of, page_of, page_point}

-- a truncated page's entries, followed by those from its point on, are the entries of the query
abbrev pub LeavesTheRest : List (List ℕ) → ListQuery → Option TokenPoint → List Pair → Page → Type 0
LeavesTheRest dir query point m page =
    page.truncated ≡ true → page.entries ++ entries_of dir query (page_point dir page) m ≡ entries_of dir query point m

-- pages of one query over one map, the first from the point and each other one from the point of the page
-- before, up to a page that is not truncated
abbrev pub AreChained : List (List ℕ) → ListQuery → List Pair → Option TokenPoint → List Page → Type 0
AreChained dir query m point [] = ⊥
AreChained dir query m point (page ∷ pages) =
    (page ≡ page_of dir query point m) × MatchBool page.truncated (AreChained dir query m (page_point dir page) pages) (pages ≡ [])

-- the entries of the pages, one page after the other
abbrev pub all_entries : List Page → List PageEntry
all_entries pages = flat_map (λ (page : Page). page.entries) pages

-- the text of an entry: its key or its common prefix
abbrev pub entry_text : List (List ℕ) → PageEntry → List ℕ
entry_text dir (Key rank val) = name_at dir rank
entry_text dir (Group rank len) = group_text dir rank len

-- the entries' texts rise strictly in byte order, so no key and no common prefix comes twice
abbrev pub RiseByText : List (List ℕ) → List PageEntry → Type 0
RiseByText dir entries = AllPairs (λ e later. is_above (entry_text dir later) (entry_text dir e) ≡ true) entries

-- these are all entries of the query from the point on, each once: a common prefix, too, comes on one page only
pub record AreAllEntries (dir : List (List ℕ)) (query : ListQuery) (point : Option TokenPoint) (m : List Pair) (entries : List PageEntry) : Type 0 where
  pub all : entries ≡ entries_of dir query point m
  pub once : RiseByText dir entries

-- where the page is the first of chained pages, they give all entries, each once
abbrev pub BeginsAll : List (List ℕ) → ListQuery → Option TokenPoint → List Pair → Page → Type 0
BeginsAll dir query point m page =
    0 < query.max_keys → (pages : List Page) → AreChained dir query m point (page ∷ pages) → AreAllEntries dir query point m (all_entries (page ∷ pages))
