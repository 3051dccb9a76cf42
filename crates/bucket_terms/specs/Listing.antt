-- The page of a query on a map: filtered by prefix and resume point, grouped by the delimiter, and cut (Amazon S3 API
-- reference, ListObjectsV2: `Prefix`, `Delimiter`, `CommonPrefixes`, `StartAfter`, `MaxKeys`); continuation tokens; and
-- listings of version 1.
use Rattle.std.specs.Prelude.{◌≡◌, ℕ, ◌+◌, ◌/◌, ◌%◌, ◌≤◌, ◌==◌, ◌&&◌, Bool, true, false, not, nat_lt, if◌then◌else◌, List, [], ◌∷◌, ◌++◌, length, drop, take, map, filter, Option, Some, None, IfSome}
use Rattle.std.specs.{List.dedup, List.last_or, Option.option_map, Option.option_map_or, Ordering.is_lt, Str.bytes_eq, Str.IsUtf8}
use Rattle.base64.specs.Engines.{url_safe_no_pad}
use Rattle.base64.specs.GeneralPurpose.{encode_of}
use Rattle.key_names.specs.Names.{byte_order, name_at, begins_with, most_name_bytes, IsFine}
use Rattle.key_map.specs.declared.pair.Pair.{Pair}
use Rattle.bucket_terms.specs.declared.{list_query.ListQuery.ListQuery, v1_query.V1Query.V1Query, token_point.TokenPoint.TokenPoint, token.Token.Token}
use Rattle.bucket_terms.specs.declared.{token.Bound.Bound, page.PageEntry.PageEntry, page.Page.Page}
use Rattle.bucket_terms.specs.declared.token_point.TokenPoint.TheVariants.{Key as AtKey, Group as AtGroup}
use Rattle.bucket_terms.specs.declared.page.PageEntry.TheVariants.{Key, Group}

-- whether `text` stands above `other` in the byte order
abbrev pub is_above : List ℕ → List ℕ → Bool
is_above text other = is_lt (byte_order other text)

-- whether a listing that goes on from this point has the name. With a point, `start_after` has no effect.
abbrev pub is_admitted : ListQuery → Option TokenPoint → List ℕ → Bool
is_admitted query None name = if length query.start_after == 0 then true else is_above name query.start_after
is_admitted query (Some (AtKey key)) name = is_above name key
is_admitted query (Some (AtGroup group)) name = is_above name group && not (begins_with name group)

-- whether the pair's key is a rank of the directory, and its name begins with the prefix
abbrev pub is_under : List (List ℕ) → ListQuery → Pair → Bool
is_under dir query p = nat_lt p.key (length dir) && begins_with (name_at dir p.key) query.prefix

-- where the first `delimiter` in `text` ends, counted from `at`
unfoldable pub first_end : List ℕ → ℕ → List ℕ → Option ℕ
first_end delimiter at [] = None
first_end delimiter at (b ∷ bs) =
    if begins_with (b ∷ bs) delimiter then Some (at + length delimiter) else first_end delimiter (at + 1) bs

-- the length of the common prefix of a name: it ends with the first delimiter at or after the prefix's length
unfoldable pub group_len : ListQuery → List ℕ → Option ℕ
group_len query name =
    if length query.delimiter == 0 then None
    else first_end query.delimiter (length query.prefix) (drop (length query.prefix) name)

-- the entry of a pair: its common prefix, or else its key
abbrev pub entry_of : List (List ℕ) → ListQuery → Pair → PageEntry
entry_of dir query p = option_map_or (Group p.key) (group_len query (name_at dir p.key)) (Key p.key p.val)

-- the text of a common prefix
abbrev pub group_text : List (List ℕ) → ℕ → ℕ → List ℕ
group_text dir rank len = take len (name_at dir rank)

-- whether both are groups of one text
abbrev pub is_same_group : List (List ℕ) → PageEntry → PageEntry → Bool
is_same_group dir (Group rank len) (Group rank' len') = bytes_eq (group_text dir rank len) (group_text dir rank' len')
is_same_group dir e f = false

-- the entries of a query on a map, from a point on: each group once
unfoldable pub entries_of : List (List ℕ) → ListQuery → Option TokenPoint → List Pair → List PageEntry
entries_of dir query point m =
    dedup (is_same_group dir) (map (entry_of dir query) (filter (is_under dir query) (filter (λ p. is_admitted query point (name_at dir p.key)) m)))

-- the page of a query on a map, from a point on: the first `max_keys` entries; truncated if some fit and more are left
abbrev pub page_of : List (List ℕ) → ListQuery → Option TokenPoint → List Pair → Page
page_of dir query point m = record {
  entries = take query.max_keys (entries_of dir query point m);
  truncated = nat_lt 0 query.max_keys && nat_lt query.max_keys (length (entries_of dir query point m));
}

-- the point after an entry, and where the next page begins: after the last entry of a truncated page
abbrev pub entry_point : List (List ℕ) → PageEntry → TokenPoint
entry_point dir (Key rank val) = AtKey (name_at dir rank)
entry_point dir (Group rank len) = AtGroup (group_text dir rank len)

abbrev pub page_point : List (List ℕ) → Page → Option TokenPoint
page_point dir page = if page.truncated then option_map (entry_point dir) (last_or None page.entries) else None

-- ---- continuation tokens

-- the key or the common prefix of a point, and its letter: `K` or `P`
abbrev pub point_text : TokenPoint → List ℕ
point_text (AtKey key) = key
point_text (AtGroup group) = group

abbrev pub point_letter : TokenPoint → ℕ
point_letter (AtKey key) = 75
point_letter (AtGroup group) = 80

-- a length as four decimal digits, and a text with its length before it
abbrev pub four_digits : ℕ → List ℕ
four_digits n = (48 + n / 1000 % 10) ∷ (48 + n / 100 % 10) ∷ (48 + n / 10 % 10) ∷ (48 + n % 10) ∷ []

abbrev pub sized : List ℕ → List ℕ
sized text = four_digits (length text) ++ text

-- the bytes of a token. Without a bound: the letter, and the key or the common prefix. With a bound: `2` and the
-- letter; the prefix and the delimiter, each with its length; and the key or the common prefix.
abbrev pub bytes_by : TokenPoint → Option Bound → List ℕ
bytes_by point None = point_letter point ∷ point_text point
bytes_by point (Some bound) = 50 ∷ point_letter point ∷ (sized bound.prefix ++ (sized bound.delimiter ++ point_text point))

-- the text of a token: URL-safe base64 without padding (RFC 4648, base64url) of its bytes
abbrev pub token_text : Token → List ℕ
token_text token = encode_of url_safe_no_pad (bytes_by token.point token.bound)

-- a prefix or a delimiter that a token may name: at most 1,024 bytes of UTF-8
pub record IsShortText (text : List ℕ) : Type 0 where
  pub short : length text ≤ most_name_bytes
  pub utf8 : IsUtf8 text

-- the text is that of a token: its point's own text is a name's, 1 to 1,024 bytes of UTF-8
pub record IsTokenOf (token : Token) (text : List ℕ) : Type 0 where
  pub fine : IsFine (point_text token.point)
  pub bound : IfSome token.bound (λ bound. IsShortText bound.prefix × IsShortText bound.delimiter)
  pub spelled : text ≡ token_text token

-- what the tokens of a listing are bound to, and the token that goes on with it after a point
abbrev pub bound_of : ListQuery → Bound
bound_of query = record { prefix = query.prefix; delimiter = query.delimiter }

abbrev pub next_token : ListQuery → TokenPoint → List ℕ
next_token query point = token_text (record { point = point; bound = Some (bound_of query) })

-- ---- listings of version 1 (Amazon S3 API reference, ListObjects: `Marker`, `NextMarker`)

-- the query of version 2 with the same parameters: no token, and no key to start after
abbrev pub plain : V1Query → ListQuery
plain query = record { prefix = query.prefix; delimiter = query.delimiter; start_after = []; token = []; max_keys = query.max_keys; url = query.url }

-- whether the text is a common prefix of the query: it begins with the prefix, and the first delimiter at or after the
-- prefix's length ends where the text ends
abbrev pub is_common_prefix : ListQuery → List ℕ → Bool
is_common_prefix query text =
    begins_with text query.prefix && option_map_or (λ len. len == length text) (group_len query text) false

-- the point of the marker: none without a marker, after all keys of a common prefix, and else after the key
abbrev pub marker_point : V1Query → Option TokenPoint
marker_point query =
    if length query.marker == 0 then None
    else Some (if is_common_prefix (plain query) query.marker then AtGroup query.marker else AtKey query.marker)

-- the page of the query on a map
abbrev pub v1_page : List (List ℕ) → V1Query → List Pair → Page
v1_page dir query m = page_of dir (plain query) (marker_point query) m

-- the next marker, the key or the common prefix of a truncated page's last entry: it is given with a delimiter alone;
-- without one the client takes the last key
abbrev pub next_marker : List (List ℕ) → V1Query → Page → Option (List ℕ)
next_marker dir query page = if length query.delimiter == 0 then None else option_map point_text (page_point dir page)
