-- The text of a run: one JSON object a line, whose members stand in the byte order of their names.
use Rattle.std.specs.Prelude.{ℕ, ◌+◌, ◌==◌, ◌||◌, not, Bool, true, false, List, [], ◌∷◌, ◌++◌, length, codes, if◌then◌else◌, Option, Some, None, slice_index_or}
use Rattle.std.specs.{Option.option_map, Option.option_map_or, List.filter_map, List.flat_map, Char.is_ascii_alphanumeric}
use Rattle.percent_encoding.specs.Percent.{percent_encode_byte}
use Rattle.serde_json.specs.Data.{Data, null, boolean, string, number, unsigned, array, object, Members, no_members, member}
use Rattle.serde_json.specs.View.{items_of}
use Rattle.serde_json.specs.Written.{compact_text}
use Rattle.key_names.specs.Names.{name_at}
use Rattle.key_map.specs.declared.{update.Update.Update, update.Change.Change}
use Rattle.key_map.specs.declared.update.Change.TheVariants.{Put as PutVal, Remove}
use Rattle.bucket_terms.specs.declared.{record.Record.Record, page.PageEntry.PageEntry, reply.Reply.Reply, reply.Placed.Placed}
use Rattle.bucket_terms.specs.declared.page.PageEntry.TheVariants.{Key, Group}
use Rattle.bucket_terms.specs.declared.reply.Reply.TheVariants.{Put, Exists, Deleted, Found, Missing, Listed, ListedV1, BadToken, NoSlot}
use Rattle.bucket_terms.specs.Listing.{group_text, next_token, page_point, next_marker}
use Rattle.bucket_terms.specs.LegalRun.{Run}

-- ---- escapes under `encoding-type=url` (Amazon S3 API reference, ListObjectsV2: `EncodingType`)

-- whether a byte stands for itself: an ASCII letter or digit, or one of `-`, `.`, `_`, `~` and `/`
abbrev pub is_kept : ℕ → Bool
is_kept b = is_ascii_alphanumeric b || (b == 45) || (b == 46) || (b == 95) || (b == 126) || (b == 47)

-- the text as an answer shows it: under `url` each other byte is `%` and two upper-case hexadecimal digits
abbrev pub shown : Bool → List ℕ → List ℕ
shown true text = flat_map (λ b. if is_kept b then b ∷ [] else percent_encode_byte b) text
shown false text = text

-- ---- objects by their members

pub record Member : Type 0 where
  pub name : List ℕ
  pub value : Data

-- a member that is always there, one that is there where the test holds, and a text where there is one
abbrev pub always : List ℕ → Data → Option Member
always name value = Some (record { name = name; value = value })

abbrev pub only_if : Bool → List ℕ → Data → Option Member
only_if true name value = always name value
only_if false name value = None

abbrev pub if_some : List ℕ → Option (List ℕ) → Option Member
if_some name (Some text) = always name (string text)
if_some name None = None

-- the members that are present, in order
abbrev pub members_there : List (Option Member) → Members
members_there [] = no_members
members_there (Some m ∷ ms) = member m.name m.value (members_there ms)
members_there (None ∷ ms) = members_there ms

abbrev pub object_of : List (Option Member) → Data
object_of ms = object (members_there ms)

-- an unsigned number, in decimal digits
abbrev pub whole : ℕ → Data
whole n = number (unsigned n)

-- one line: the object with no space between its tokens, and LF
abbrev pub line_of : Data → List ℕ
line_of d = compact_text d ++ 10 ∷ []

-- ---- the entries of a page

-- the record at a place; beyond the last place, one that no answer shows
abbrev pub record_at : List Record → ℕ → Record
record_at records place = slice_index_or records place (record { size = 0; etag = []; modified = 0 })

-- what `Contents` and `CommonPrefixes` show of an entry (Amazon S3 API reference, ListObjectsV2)
abbrev pub content_of : List (List ℕ) → List Record → Bool → PageEntry → Option Data
content_of dir records url (Key rank val) = Some (object_of (
    always (codes "ETag") (string (record_at records val).etag) ∷ always (codes "Key") (string (shown url (name_at dir rank)))
    ∷ always (codes "LastModified") (whole (record_at records val).modified) ∷ always (codes "Size") (whole (record_at records val).size) ∷ []))
content_of dir records url (Group rank len) = None

abbrev pub prefix_of : List (List ℕ) → Bool → PageEntry → Option Data
prefix_of dir url (Key rank val) = None
prefix_of dir url (Group rank len) = Some (object_of (always (codes "Prefix") (string (shown url (group_text dir rank len))) ∷ []))

-- ---- reply lines

-- whether a parameter was given: its text is not empty
abbrev pub is_given : List ℕ → Bool
is_given text = not (length text == 0)

-- the members after the place and the client: of a reply that shows no more than whether a record was replaced, and of
-- any reply of the line. Tokens are never escaped.
abbrev pub short_end : ℕ → Option Member → ℕ → List (Option Member)
short_end line replaced status = always (codes "Line") (whole line) ∷ replaced ∷ always (codes "Status") (whole status) ∷ []

abbrev pub reply_end : List (List ℕ) → List Record → ℕ → Reply → List (Option Member)
reply_end dir records line (Put was) = short_end line (always (codes "Replaced") (boolean was)) 200
reply_end dir records line Exists = short_end line None 412
reply_end dir records line Deleted = short_end line None 204
reply_end dir records line (Found val) =
    always (codes "ETag") (string (record_at records val).etag) ∷ always (codes "LastModified") (whole (record_at records val).modified)
    ∷ always (codes "Line") (whole line) ∷ always (codes "Size") (whole (record_at records val).size) ∷ always (codes "Status") (whole 200) ∷ []
reply_end dir records line Missing = short_end line None 404
reply_end dir records line (Listed query page) =
    always (codes "CommonPrefixes") (array (items_of (filter_map (prefix_of dir query.url) page.entries)))
    ∷ always (codes "Contents") (array (items_of (filter_map (content_of dir records query.url) page.entries)))
    ∷ only_if (is_given query.token) (codes "ContinuationToken") (string query.token)
    ∷ only_if (is_given query.delimiter) (codes "Delimiter") (string (shown query.url query.delimiter))
    ∷ only_if query.url (codes "EncodingType") (string (codes "url"))
    ∷ always (codes "IsTruncated") (boolean page.truncated)
    ∷ always (codes "KeyCount") (whole (length page.entries))
    ∷ always (codes "Line") (whole line)
    ∷ always (codes "MaxKeys") (whole query.max_keys)
    ∷ only_if page.truncated (codes "NextContinuationToken") (string (option_map_or (next_token query) (page_point dir page) []))
    ∷ always (codes "Prefix") (string (shown query.url query.prefix))
    ∷ only_if (is_given query.start_after) (codes "StartAfter") (string (shown query.url query.start_after))
    ∷ always (codes "Status") (whole 200) ∷ []
reply_end dir records line (ListedV1 query page) =
    always (codes "CommonPrefixes") (array (items_of (filter_map (prefix_of dir query.url) page.entries)))
    ∷ always (codes "Contents") (array (items_of (filter_map (content_of dir records query.url) page.entries)))
    ∷ only_if (is_given query.delimiter) (codes "Delimiter") (string (shown query.url query.delimiter))
    ∷ only_if query.url (codes "EncodingType") (string (codes "url"))
    ∷ always (codes "IsTruncated") (boolean page.truncated)
    ∷ always (codes "Line") (whole line)
    ∷ always (codes "Marker") (string (shown query.url query.marker))
    ∷ always (codes "MaxKeys") (whole query.max_keys)
    ∷ if_some (codes "NextMarker") (option_map (shown query.url) (next_marker dir query page))
    ∷ always (codes "Prefix") (string (shown query.url query.prefix))
    ∷ always (codes "Status") (whole 200) ∷ []
reply_end dir records line BadToken = short_end line None 400
reply_end dir records line NoSlot = short_end line None 503

abbrev pub reply_data : List (List ℕ) → List Record → Placed → Data
reply_data dir records p = object_of (
    always (codes "At") (option_map_or whole p.at null) ∷ always (codes "Client") (whole p.client) ∷ reply_end dir records p.line p.reply)

-- ---- the journal, the last line, and the whole run

abbrev pub verb_text : Change → List ℕ
verb_text (PutVal val) = codes "PUT"
verb_text Remove = codes "DELETE"

-- one update of the history: its place, its client, its key, which is never escaped, its request line, and its verb
abbrev pub journal_data : List (List ℕ) → ℕ → Update → Data
journal_data dir place u = object_of (
    always (codes "At") (whole place) ∷ always (codes "Client") (whole u.client) ∷ always (codes "Key") (string (name_at dir u.key))
    ∷ always (codes "Line") (whole u.line) ∷ always (codes "Verb") (string (verb_text u.change)) ∷ [])

-- the updates from this place on
abbrev pub journal_lines : List (List ℕ) → ℕ → List Update → List ℕ
journal_lines dir place [] = []
journal_lines dir place (u ∷ us) = line_of (journal_data dir place u) ++ journal_lines dir (place + 1) us

-- the last line of a text with this number of updates
abbrev pub counting_line : ℕ → List ℕ
counting_line count = line_of (object_of (always (codes "Updates") (whole count) ∷ []))

-- the session text: the replies client by client, in order; the journal by place, from 1; and the number of updates
abbrev pub session_text : List (List ℕ) → List Record → Run → List ℕ
session_text dir records run =
    flat_map (flat_map (λ (p : Placed). line_of (reply_data dir records p))) run.replies
    ++ journal_lines dir 1 run.updates
    ++ counting_line (length run.updates)
