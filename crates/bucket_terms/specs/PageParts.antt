-- Helper: the headline does not rest on this file.
-- The parts of a page and of a token by which they are made.
use Rattle.std.specs.Prelude.{ℕ, ◌&&◌, nat_lt, List, [], ◌∷◌, length, take, map, filter, Option, Some, None}
use Rattle.std.specs.List.{dedup}
use Rattle.std.specs.Option.{option_map, option_map_or}
use Rattle.key_map.specs.declared.pair.Pair.{Pair}
use Rattle.bucket_terms.specs.declared.list_query.ListQuery.{ListQuery}
use Rattle.bucket_terms.specs.declared.token_point.TokenPoint.{TokenPoint}
use Rattle.bucket_terms.specs.declared.token.Bound.{Bound}
use Rattle.bucket_terms.specs.declared.token.Token.{Token}
use Rattle.bucket_terms.specs.declared.page.PageEntry.{PageEntry}
use Rattle.bucket_terms.specs.declared.page.PageEntry.TheVariants.{Key, Group}
use Rattle.bucket_terms.specs.declared.page.Page.{Page}
use Rattle.bucket_terms.specs.Listing.{IsShortText, bytes_by, is_under, entry_of, is_same_group, entry_point, page_point, point_text}

-- the entry of a pair whose name is rolled up into a common prefix of this length, or of one whose name is not
abbrev pub entry_by : Option ℕ → Pair → PageEntry
entry_by len p = option_map_or (Group p.key) len (Key p.key p.val)

-- the entries under the prefix: each group once
unfoldable pub listing : List (List ℕ) → ListQuery → List Pair → List PageEntry
listing dir query m = dedup (is_same_group dir) (map (entry_of dir query) (filter (is_under dir query) m))

-- the first `max_keys` of these entries; truncated where it may have some and more are left
abbrev pub cut_at : ℕ → List PageEntry → Page
cut_at max_keys entries =
    record { entries = take max_keys entries; truncated = nat_lt 0 max_keys && nat_lt max_keys (length entries) }

-- the point after the last of some entries
abbrev pub last_point : List (List ℕ) → List PageEntry → Option TokenPoint
last_point dir [] = None
last_point dir (e ∷ []) = Some (entry_point dir e)
last_point dir (e ∷ f ∷ es) = last_point dir (f ∷ es)

-- the text of a truncated page's last entry: its key or its common prefix
abbrev pub last_text : List (List ℕ) → Page → Option (List ℕ)
last_text dir page = option_map point_text (page_point dir page)

-- the bytes of a token; and a bound whose texts a token may name
abbrev pub token_bytes : Token → List ℕ
token_bytes token = bytes_by token.point token.bound

abbrev pub IsShortBound : Bound → Type 0
IsShortBound bound = IsShortText bound.prefix × IsShortText bound.delimiter
