-- Helper: the headline does not rest on this file.
-- The lines of the answer as the code divides them: what each shows, and lists of its members.
use Rattle.std.specs.Prelude.{ℕ, Bool, List, [], ◌∷◌, length, codes, if◌then◌else◌, Option, Some, None}
use Rattle.std.specs.Option.{option_map, option_map_or}
use Rattle.std.specs.List.{filter_map, flat_map}
use Rattle.percent_encoding.specs.Percent.{percent_encode_byte}
use Rattle.serde_json.specs.Data.{Data, null, boolean, string, array}
use Rattle.serde_json.specs.View.{items_of}
use Rattle.bucket_terms.specs.declared.record.Record.{Record}
use Rattle.bucket_terms.specs.declared.list_query.ListQuery.{ListQuery}
use Rattle.bucket_terms.specs.declared.v1_query.V1Query.{V1Query}
use Rattle.bucket_terms.specs.declared.token_point.TokenPoint.{TokenPoint}
use Rattle.bucket_terms.specs.declared.page.Page.{Page}
use Rattle.bucket_terms.specs.declared.reply.Reply.{Reply}
use Rattle.bucket_terms.specs.declared.reply.Placed.{Placed}
use Rattle.bucket_terms.specs.Listing.{next_token, page_point, next_marker}
use Rattle.answer_text.specs.Lines.{Member, always, only_if, if_some, whole, object_of, line_of, is_kept, shown, is_given, content_of, prefix_of, reply_end, reply_data}

-- ---- escapes

-- the byte itself, or `%` and its two upper-case hexadecimal digits
abbrev pub escaped_byte : ℕ → List ℕ
escaped_byte b = if is_kept b then b ∷ [] else percent_encode_byte b

abbrev pub escaped : List ℕ → List ℕ
escaped text = flat_map escaped_byte text

-- ---- what several lines show

abbrev pub array_of : List Data → Data
array_of items = array (items_of items)

abbrev pub place_data : Option ℕ → Data
place_data at = option_map_or whole at null

abbrev pub at_member : Option ℕ → Option Member
at_member at = always (codes "At") (place_data at)

abbrev pub client_member : ℕ → Option Member
client_member client = always (codes "Client") (whole client)

abbrev pub line_member : ℕ → Option Member
line_member line = always (codes "Line") (whole line)

abbrev pub status_member : ℕ → Option Member
status_member status = always (codes "Status") (whole status)

-- ---- the entries of a page

abbrev pub content_members : List ℕ → Record → List (Option Member)
content_members key r =
    always (codes "ETag") (string r.etag)
    ∷ always (codes "Key") (string key)
    ∷ always (codes "LastModified") (whole r.modified)
    ∷ always (codes "Size") (whole r.size)
    ∷ []

-- the token that continues after a page's point, where it has one
abbrev pub point_token : ListQuery → Option TokenPoint → List ℕ
point_token query point = option_map_or (next_token query) point []

-- what the line of a listing shows of its page, and the texts of its query as they are shown
pub record PageShown : Type 0 where
  pub prefixes : List Data
  pub contents : List Data
  pub count : ℕ
  pub truncated : Bool
  pub next : List ℕ
  pub prefix : List ℕ
  pub delimiter : List ℕ
  pub start_after : List ℕ

abbrev pub page_shown : List (List ℕ) → List Record → ListQuery → Page → PageShown
page_shown dir records query page = record {
  prefixes = filter_map (prefix_of dir query.url) page.entries;
  contents = filter_map (content_of dir records query.url) page.entries;
  count = length page.entries;
  truncated = page.truncated;
  next = point_token query (page_point dir page);
  prefix = shown query.url query.prefix;
  delimiter = shown query.url query.delimiter;
  start_after = shown query.url query.start_after;
}

-- the same of a listing of version 1
pub record V1Shown : Type 0 where
  pub prefixes : List Data
  pub contents : List Data
  pub truncated : Bool
  pub marker : List ℕ
  pub next : Option (List ℕ)
  pub prefix : List ℕ
  pub delimiter : List ℕ

abbrev pub v1_shown : List (List ℕ) → List Record → V1Query → Page → V1Shown
v1_shown dir records query page = record {
  prefixes = filter_map (prefix_of dir query.url) page.entries;
  contents = filter_map (content_of dir records query.url) page.entries;
  truncated = page.truncated;
  marker = shown query.url query.marker;
  next = option_map (shown query.url) (next_marker dir query page);
  prefix = shown query.url query.prefix;
  delimiter = shown query.url query.delimiter;
}

-- ---- reply lines

-- whether a put replaced a record
abbrev pub replaced_member : Option Bool → Option Member
replaced_member (Some was) = always (codes "Replaced") (boolean was)
replaced_member None = None

-- a reply with its status, and a put with one truth value besides
abbrev pub short_members : Option ℕ → ℕ → ℕ → Option Bool → ℕ → List (Option Member)
short_members at client line replaced status =
    at_member at ∷ client_member client ∷ line_member line ∷ replaced_member replaced ∷ status_member status ∷ []

abbrev pub found_members : Option ℕ → ℕ → ℕ → Record → List (Option Member)
found_members at client line r =
    at_member at
    ∷ client_member client
    ∷ always (codes "ETag") (string r.etag)
    ∷ always (codes "LastModified") (whole r.modified)
    ∷ line_member line
    ∷ always (codes "Size") (whole r.size)
    ∷ status_member 200
    ∷ []

abbrev pub listed_members : Option ℕ → ℕ → ℕ → ListQuery → PageShown → List (Option Member)
listed_members at client line query page =
    at_member at
    ∷ client_member client
    ∷ always (codes "CommonPrefixes") (array_of page.prefixes)
    ∷ always (codes "Contents") (array_of page.contents)
    ∷ only_if (is_given query.token) (codes "ContinuationToken") (string query.token)
    ∷ only_if (is_given query.delimiter) (codes "Delimiter") (string page.delimiter)
    ∷ only_if query.url (codes "EncodingType") (string (codes "url"))
    ∷ always (codes "IsTruncated") (boolean page.truncated)
    ∷ always (codes "KeyCount") (whole page.count)
    ∷ line_member line
    ∷ always (codes "MaxKeys") (whole query.max_keys)
    ∷ only_if page.truncated (codes "NextContinuationToken") (string page.next)
    ∷ always (codes "Prefix") (string page.prefix)
    ∷ only_if (is_given query.start_after) (codes "StartAfter") (string page.start_after)
    ∷ status_member 200
    ∷ []

abbrev pub v1_members : Option ℕ → ℕ → ℕ → V1Query → V1Shown → List (Option Member)
v1_members at client line query page =
    at_member at
    ∷ client_member client
    ∷ always (codes "CommonPrefixes") (array_of page.prefixes)
    ∷ always (codes "Contents") (array_of page.contents)
    ∷ only_if (is_given query.delimiter) (codes "Delimiter") (string page.delimiter)
    ∷ only_if query.url (codes "EncodingType") (string (codes "url"))
    ∷ always (codes "IsTruncated") (boolean page.truncated)
    ∷ line_member line
    ∷ always (codes "Marker") (string page.marker)
    ∷ always (codes "MaxKeys") (whole query.max_keys)
    ∷ if_some (codes "NextMarker") page.next
    ∷ always (codes "Prefix") (string page.prefix)
    ∷ status_member 200
    ∷ []

abbrev pub reply_members : List (List ℕ) → List Record → Option ℕ → ℕ → ℕ → Reply → List (Option Member)
reply_members dir records at client line reply = at_member at ∷ client_member client ∷ reply_end dir records line reply

-- ---- the journal and the last line

abbrev pub journal_members : ℕ → ℕ → List ℕ → ℕ → List ℕ → List (Option Member)
journal_members place client key line verb =
    at_member (Some place)
    ∷ client_member client
    ∷ always (codes "Key") (string key)
    ∷ line_member line
    ∷ always (codes "Verb") (string verb)
    ∷ []

-- how many updates the history has
abbrev pub last_data : ℕ → Data
last_data updates = object_of (always (codes "Updates") (whole updates) ∷ [])

-- ---- the replies of a client

abbrev pub reply_lines : List (List ℕ) → List Record → List Placed → List ℕ
reply_lines dir records replies = flat_map (λ placed. line_of (reply_data dir records placed)) replies
