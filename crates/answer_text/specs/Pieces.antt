-- Helper: the headline does not rest on this file.
-- The pieces of text from which a line is put together.
use Rattle.std.specs.Prelude.{ℕ, Bool, true, false, List, [], ◌++◌, codes, decimal, Option, Some, None}
use Rattle.json.specs.Print.{quoted}
use Rattle.serde_json.specs.Written.{comma_if, items_text}
use Rattle.serde_json.specs.View.{items_of}
use Rattle.key_names.specs.Names.{name_at}
use Rattle.key_map.specs.declared.update.Change.{Change}
use Rattle.key_map.specs.declared.update.Change.TheVariants.{Put as PutVal, Remove}
use Rattle.bucket_terms.specs.declared.record.Record.{Record}
use Rattle.bucket_terms.specs.declared.list_query.ListQuery.{ListQuery}
use Rattle.bucket_terms.specs.declared.v1_query.V1Query.{V1Query}
use Rattle.serde_json.specs.Data.{Data}
use Rattle.bucket_terms.specs.declared.page.PageEntry.{PageEntry}
use Rattle.bucket_terms.specs.declared.page.PageEntry.TheVariants.{Key, Group}
use Rattle.bucket_terms.specs.declared.reply.Reply.{Reply}
use Rattle.bucket_terms.specs.declared.reply.Reply.TheVariants.{Put, Exists, Deleted, Found, Missing, Listed, ListedV1, BadToken, NoSlot}
use Rattle.bucket_terms.specs.Listing.{group_text}
use Rattle.answer_text.specs.Lines.{shown, is_given, record_at}
use Rattle.answer_text.specs.Shown.{PageShown, page_shown, V1Shown, v1_shown}

abbrev pub truth_text : Bool → List ℕ
truth_text true = codes "true"
truth_text false = codes "false"

-- a label and a text, where the text was given
abbrev pub given_text : Bool → List ℕ → List ℕ → List ℕ
given_text true label text = label ++ quoted text
given_text false label text = []

-- ---- replies

abbrev pub place_text : Option ℕ → List ℕ
place_text (Some at) = codes "{\"At\":" ++ decimal at
place_text None = codes "{\"At\":null"

-- how each reply begins
abbrev pub start_text : Option ℕ → ℕ → List ℕ
start_text at client = place_text at ++ (codes ",\"Client\":" ++ decimal client)

abbrev pub replaced_text : Option Bool → List ℕ
replaced_text (Some was) = codes ",\"Replaced\":" ++ truth_text was
replaced_text None = []

unfoldable pub short_text : Option ℕ → ℕ → ℕ → Option Bool → ℕ → List ℕ
short_text at client line was status =
    start_text at client
    ++ (codes ",\"Line\":" ++ (decimal line ++ (replaced_text was ++ (codes ",\"Status\":" ++ (decimal status ++ codes "}\n")))))

-- the members from `Line` to the end of the line
unfoldable pub found_end_text : ℕ → ℕ → List ℕ
found_end_text line size = codes ",\"Line\":" ++ (decimal line ++ (codes ",\"Size\":" ++ (decimal size ++ codes ",\"Status\":200}\n")))

unfoldable pub found_text : Option ℕ → ℕ → ℕ → Record → List ℕ
found_text at client line r =
    start_text at client
    ++ (codes ",\"ETag\":" ++ (quoted r.etag ++ (codes ",\"LastModified\":" ++ (decimal r.modified
    ++ (codes ",\"Line\":" ++ (decimal line ++ (codes ",\"Size\":" ++ (decimal r.size ++ codes ",\"Status\":200}\n"))))))))

-- ---- the entries of a page

unfoldable pub content_text : List ℕ → Record → List ℕ
content_text key r =
    codes "{\"ETag\":" ++ (quoted r.etag ++ (codes ",\"Key\":" ++ (quoted key
    ++ (codes ",\"LastModified\":" ++ (decimal r.modified ++ (codes ",\"Size\":" ++ (decimal r.size ++ codes "}")))))))

-- a key's object from the quote after the key on
unfoldable pub behind_key_text : ℕ → ℕ → List ℕ
behind_key_text modified size = codes "\",\"LastModified\":" ++ (decimal modified ++ (codes ",\"Size\":" ++ (decimal size ++ codes "}")))

unfoldable pub prefix_text : List ℕ → List ℕ
prefix_text prefix = codes "{\"Prefix\":" ++ (quoted prefix ++ codes "}")

-- what the arrays of keys and of common prefixes have for an entry, after a comma where something stands there
abbrev pub content_element : Bool → List (List ℕ) → List Record → Bool → PageEntry → List ℕ
content_element later dir records url (Key rank val) = comma_if later ++ content_text (shown url (name_at dir rank)) (record_at records val)
content_element later dir records url (Group rank len) = []

abbrev pub prefix_element : Bool → List (List ℕ) → Bool → PageEntry → List ℕ
prefix_element later dir url (Key rank val) = []
prefix_element later dir url (Group rank len) = comma_if later ++ prefix_text (shown url (group_text dir rank len))

-- ---- listings

unfoldable pub entries_text : List Data → List Data → List ℕ
entries_text prefixes contents =
    codes ",\"CommonPrefixes\":[" ++ (items_text false (items_of prefixes)
    ++ (codes ",\"Contents\":[" ++ items_text false (items_of contents)))

unfoldable pub asked_text : ListQuery → List ℕ → List ℕ
asked_text query delimiter =
    given_text (is_given query.token) (codes ",\"ContinuationToken\":") query.token
    ++ (given_text (is_given query.delimiter) (codes ",\"Delimiter\":") delimiter
    ++ given_text query.url (codes ",\"EncodingType\":") (codes "url"))

unfoldable pub size_text : ℕ → ListQuery → Bool → ℕ → List ℕ
size_text line query truncated count =
    codes ",\"IsTruncated\":" ++ (truth_text truncated ++ (codes ",\"KeyCount\":" ++ (decimal count
    ++ (codes ",\"Line\":" ++ (decimal line ++ (codes ",\"MaxKeys\":" ++ decimal query.max_keys))))))

unfoldable pub bounds_text : ListQuery → Bool → List ℕ → List ℕ → List ℕ → List ℕ
bounds_text query truncated next prefix start_after =
    given_text truncated (codes ",\"NextContinuationToken\":") next
    ++ (codes ",\"Prefix\":" ++ (quoted prefix
    ++ (given_text (is_given query.start_after) (codes ",\"StartAfter\":") start_after ++ codes ",\"Status\":200}\n")))

unfoldable pub listed_text : Option ℕ → ℕ → ℕ → ListQuery → PageShown → List ℕ
listed_text at client line query page =
    start_text at client
    ++ (entries_text page.prefixes page.contents ++ (asked_text query page.delimiter
    ++ (size_text line query page.truncated page.count
    ++ bounds_text query page.truncated page.next page.prefix page.start_after)))

unfoldable pub v1_asked_text : V1Query → List ℕ → List ℕ
v1_asked_text query delimiter =
    given_text (is_given query.delimiter) (codes ",\"Delimiter\":") delimiter
    ++ given_text query.url (codes ",\"EncodingType\":") (codes "url")

unfoldable pub v1_size_text : ℕ → V1Query → Bool → List ℕ → List ℕ
v1_size_text line query truncated marker =
    codes ",\"IsTruncated\":" ++ (truth_text truncated ++ (codes ",\"Line\":" ++ (decimal line
    ++ (codes ",\"Marker\":" ++ (quoted marker ++ (codes ",\"MaxKeys\":" ++ decimal query.max_keys))))))

abbrev pub next_text : Option (List ℕ) → List ℕ
next_text (Some marker) = codes ",\"NextMarker\":" ++ quoted marker
next_text None = []

unfoldable pub v1_bounds_text : Option (List ℕ) → List ℕ → List ℕ
v1_bounds_text next prefix = next_text next ++ (codes ",\"Prefix\":" ++ (quoted prefix ++ codes ",\"Status\":200}\n"))

unfoldable pub v1_text : Option ℕ → ℕ → ℕ → V1Query → V1Shown → List ℕ
v1_text at client line query page =
    start_text at client
    ++ (entries_text page.prefixes page.contents ++ (v1_asked_text query page.delimiter
    ++ (v1_size_text line query page.truncated page.marker ++ v1_bounds_text page.next page.prefix)))

abbrev pub reply_text : List (List ℕ) → List Record → Option ℕ → ℕ → ℕ → Reply → List ℕ
reply_text dir records at client line (Put was) = short_text at client line (Some was) 200
reply_text dir records at client line Exists = short_text at client line None 412
reply_text dir records at client line Deleted = short_text at client line None 204
reply_text dir records at client line (Found val) = found_text at client line (record_at records val)
reply_text dir records at client line Missing = short_text at client line None 404
reply_text dir records at client line (Listed query page) = listed_text at client line query (page_shown dir records query page)
reply_text dir records at client line (ListedV1 query page) = v1_text at client line query (v1_shown dir records query page)
reply_text dir records at client line BadToken = short_text at client line None 400
reply_text dir records at client line NoSlot = short_text at client line None 503

-- ---- the journal and the last line

abbrev pub verb_end_text : Change → List ℕ
verb_end_text (PutVal val) = codes ",\"Verb\":\"PUT\"}\n"
verb_end_text Remove = codes ",\"Verb\":\"DELETE\"}\n"

-- the members from `Key` to the end of the line
unfoldable pub change_text : List ℕ → ℕ → Change → List ℕ
change_text key line change = codes ",\"Key\":" ++ (quoted key ++ (codes ",\"Line\":" ++ (decimal line ++ verb_end_text change)))

unfoldable pub journal_text : ℕ → ℕ → List ℕ → ℕ → Change → List ℕ
journal_text place client key line change =
    codes "{\"At\":" ++ (decimal place ++ (codes ",\"Client\":" ++ (decimal client ++ (codes ",\"Key\":" ++ (quoted key
    ++ (codes ",\"Line\":" ++ (decimal line ++ verb_end_text change)))))))

unfoldable pub last_text : ℕ → List ℕ
last_text updates = codes "{\"Updates\":" ++ (decimal updates ++ codes "}\n")
