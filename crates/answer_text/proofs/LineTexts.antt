-- The pieces of each line make its object's text.
use Rattle.std.proofs.Common.{◌≡◌, ℕ, Bool, true, false, List, [], ◌∷◌, ◌++◌, Option, Some, None, codes, decimal, refl, sym, ap, ◌∙◌, append_assoc}
use Rattle.std.specs.Fmt.{digits}
use Rattle.json.specs.Print.{quoted, escape_byte}
use Rattle.serde_json.specs.Data.{Data, string, boolean}
use Rattle.serde_json.specs.View.{items_of}
use Rattle.serde_json.specs.Written.{compact_text, members_text, items_text}
use Rattle.key_map.specs.declared.update.Change.{Change}
use Rattle.key_map.specs.declared.update.Change.TheVariants.{Put as PutVal, Remove}
use Rattle.bucket_terms.specs.declared.record.Record.{Record}
use Rattle.bucket_terms.specs.declared.list_query.ListQuery.{ListQuery}
use Rattle.bucket_terms.specs.declared.v1_query.V1Query.{V1Query}
use Rattle.bucket_terms.specs.declared.reply.Reply.{Reply}
use Rattle.bucket_terms.specs.declared.reply.Reply.TheVariants.{Put, Exists, Deleted, Found, Missing, Listed, ListedV1, BadToken, NoSlot}
use Rattle.answer_text.specs.Lines.{Member, always, only_if, if_some, whole, members_there, object_of, line_of, is_given, verb_text, record_at}
use Rattle.answer_text.specs.Shown.{array_of, PageShown, page_shown, V1Shown, v1_shown, v1_members, place_data, client_member, line_member, replaced_member, reply_members, journal_members, short_members, found_members, listed_members, last_data}
use Rattle.answer_text.specs.Pieces as spec

-- a member after the first one, and what stands after it
abbrev pub member_then : Option Member → List ℕ → List ℕ
member_then (Some m) rest = 44 ∷ (quoted m.name ++ 58 ∷ (compact_text m.value ++ rest))
member_then None rest = rest

-- the members after the first one, the end of the object, and what stands after it
abbrev pub members_then : List ℕ → List (Option Member) → List ℕ
members_then rest [] = 125 ∷ rest
members_then rest (m ∷ ms) = member_then m (members_then rest ms)

members_end : (rest : List ℕ) (ms : List (Option Member)) → members_text true (members_there ms) ++ rest ≡ members_then rest ms
members_end rest [] = refl
members_end rest (None ∷ ms) = members_end rest ms
members_end rest (Some m ∷ ms) =
    ap (λ t. 44 ∷ t) (
    append_assoc (quoted m.name) (58 ∷ (compact_text m.value ++ members_text true (members_there ms))) rest
    ∙ ap (λ t. quoted m.name ++ 58 ∷ t) (append_assoc (compact_text m.value) (members_text true (members_there ms)) rest ∙ ap (λ t. compact_text m.value ++ t) (members_end rest ms))
    )

-- the line of an object whose first member is always there
line_end : (name : List ℕ) (value : Data) (ms : List (Option Member))
    → line_of (object_of (always name value ∷ ms)) ≡ 123 ∷ (quoted name ++ 58 ∷ (compact_text value ++ members_then (10 ∷ []) ms))
line_end name value ms =
    ap (λ t. 123 ∷ t) (
    append_assoc (quoted name) (58 ∷ (compact_text value ++ members_text true (members_there ms))) (10 ∷ [])
    ∙ ap (λ t. quoted name ++ 58 ∷ t) (append_assoc (compact_text value) (members_text true (members_there ms)) (10 ∷ []) ∙ ap (λ t. compact_text value ++ t) (members_end (10 ∷ []) ms))
    )

-- ---- pieces

-- how each reply begins, and what stands after it
abbrev start_then : Option ℕ → ℕ → List ℕ → List ℕ
start_then at client rest = 123 ∷ (quoted (codes "At") ++ 58 ∷ (compact_text (place_data at) ++ member_then (client_member client) rest))

start_line : (at : Option ℕ) (client : ℕ) (rest : List ℕ) → spec.start_text at client ++ rest ≡ start_then at client rest
unfolding escape_byte
start_line (Some n) client rest = ap (λ t. codes "{\"At\":" ++ t) (append_assoc (decimal n) (codes ",\"Client\":" ++ decimal client) rest)
start_line None client rest = refl

truth_line : (truth : Bool) → spec.truth_text truth ≡ compact_text (boolean truth)
truth_line true = refl
truth_line false = refl

replaced_line : (was : Option Bool) (rest : List ℕ) → spec.replaced_text was ++ rest ≡ member_then (replaced_member was) rest
unfolding escape_byte
replaced_line None rest = refl
replaced_line (Some true) rest = refl
replaced_line (Some false) rest = refl

given_line : (given : Bool) (name text rest : List ℕ)
    → spec.given_text given (44 ∷ (quoted name ++ 58 ∷ [])) text ++ rest ≡ member_then (only_if given name (string text)) rest
given_line false name text rest = refl
given_line true name text rest =
    ap (λ t. 44 ∷ t) (
    append_assoc (quoted name ++ 58 ∷ []) (quoted text) rest
    ∙ append_assoc (quoted name) (58 ∷ []) (quoted text ++ rest)
    )

-- ---- lines

pub last_line : (updates : ℕ) → spec.last_text updates ≡ line_of (last_data updates)
unfolding escape_byte spec.last_text
last_line updates = sym (line_end (codes "Updates") (whole updates) [])

pub journal_line : (place client : ℕ) (key : List ℕ) (line : ℕ) (change : Change)
    → spec.journal_text place client key line change ≡ line_of (object_of (journal_members place client key line (verb_text change)))
unfolding escape_byte spec.journal_text spec.change_text
journal_line place client key line (PutVal val) =
    sym (line_end (codes "At") (whole place) (client_member client ∷ always (codes "Key") (string key) ∷ line_member line ∷ always (codes "Verb") (string (codes "PUT")) ∷ []))
journal_line place client key line Remove =
    sym (line_end (codes "At") (whole place) (client_member client ∷ always (codes "Key") (string key) ∷ line_member line ∷ always (codes "Verb") (string (codes "DELETE")) ∷ []))

short_line : (at : Option ℕ) (client line : ℕ) (was : Option Bool) (status : ℕ) → spec.short_text at client line was status ≡ line_of (object_of (short_members at client line was status))
unfolding escape_byte spec.short_text
short_line at client line was status =
    start_line at client _
    ∙ ap (λ t. start_then at client (codes ",\"Line\":" ++ (decimal line ++ t))) (replaced_line was (codes ",\"Status\":" ++ (decimal status ++ codes "}\n")))
    ∙ sym (line_end (codes "At") (place_data at) (client_member client ∷ line_member line ∷ replaced_member was ∷ always (codes "Status") (whole status) ∷ []))

found_line : (at : Option ℕ) (client line : ℕ) (r : Record) → spec.found_text at client line r ≡ line_of (object_of (found_members at client line r))
unfolding digits escape_byte spec.found_text spec.found_end_text
found_line at client line r =
    start_line at client _
    ∙ sym (line_end (codes "At") (place_data at) (
    client_member client
    ∷ always (codes "ETag") (string r.etag)
    ∷ always (codes "LastModified") (whole r.modified)
    ∷ line_member line
    ∷ always (codes "Size") (whole r.size)
    ∷ always (codes "Status") (whole 200)
    ∷ []
    ))

entries_line : (prefixes contents : List Data) (rest : List ℕ)
    → spec.entries_text prefixes contents ++ rest ≡ member_then (always (codes "CommonPrefixes") (array_of prefixes)) (member_then (always (codes "Contents") (array_of contents)) rest)
unfolding escape_byte spec.entries_text
entries_line prefixes contents rest =
    ap (λ t. codes ",\"CommonPrefixes\":[" ++ t) (append_assoc (items_text false (items_of prefixes)) (codes ",\"Contents\":[" ++ items_text false (items_of contents)) rest)

asked_line : (query : ListQuery) (delimiter rest : List ℕ)
    → spec.asked_text query delimiter ++ rest
    ≡ member_then (only_if (is_given query.token) (codes "ContinuationToken") (string query.token))
    (member_then (only_if (is_given query.delimiter) (codes "Delimiter") (string delimiter))
    (member_then (only_if query.url (codes "EncodingType") (string (codes "url"))) rest))
unfolding escape_byte spec.asked_text
asked_line query delimiter rest =
    let token = spec.given_text (is_given query.token) (codes ",\"ContinuationToken\":") query.token in
    let cut = spec.given_text (is_given query.delimiter) (codes ",\"Delimiter\":") delimiter in
    let url = spec.given_text query.url (codes ",\"EncodingType\":") (codes "url") in
    append_assoc token (cut ++ url) rest
    ∙ ap (λ t. token ++ t) (append_assoc cut url rest ∙ ap (λ t. cut ++ t) (given_line query.url (codes "EncodingType") (codes "url") rest) ∙ given_line (is_given query.delimiter) (codes "Delimiter") delimiter _)
    ∙ given_line (is_given query.token) (codes "ContinuationToken") query.token _

size_line : (line : ℕ) (query : ListQuery) (truncated : Bool) (count : ℕ) (rest : List ℕ)
    → spec.size_text line query truncated count ++ rest
    ≡ member_then (always (codes "IsTruncated") (boolean truncated))
    (member_then (always (codes "KeyCount") (whole count)) (member_then (line_member line) (member_then (always (codes "MaxKeys") (whole query.max_keys)) rest)))
unfolding escape_byte spec.size_text
size_line line query truncated count rest =
    let last = codes ",\"MaxKeys\":" ++ decimal query.max_keys in
    let lines = codes ",\"Line\":" ++ (decimal line ++ last) in
    let counted = codes ",\"KeyCount\":" ++ (decimal count ++ lines) in
    ap (λ t. codes ",\"IsTruncated\":" ++ t) (
    append_assoc (spec.truth_text truncated) counted rest
    ∙ ap (λ t. t ++ (counted ++ rest)) (truth_line truncated)
    ∙ ap (λ t. compact_text (boolean truncated) ++ (codes ",\"KeyCount\":" ++ t)) (
    append_assoc (decimal count) lines rest
    ∙ ap (λ t. decimal count ++ (codes ",\"Line\":" ++ t)) (append_assoc (decimal line) last rest)
    )
    )

bounds_line : (query : ListQuery) (truncated : Bool) (next prefix start_after : List ℕ)
    → spec.bounds_text query truncated next prefix start_after
    ≡ member_then (only_if truncated (codes "NextContinuationToken") (string next))
    (member_then (always (codes "Prefix") (string prefix))
    (member_then (only_if (is_given query.start_after) (codes "StartAfter") (string start_after))
    (member_then (always (codes "Status") (whole 200)) (125 ∷ 10 ∷ []))))
unfolding digits escape_byte spec.bounds_text
bounds_line query truncated next prefix start_after =
    ap (λ t. spec.given_text truncated (codes ",\"NextContinuationToken\":") next ++ (codes ",\"Prefix\":" ++ (quoted prefix ++ t)))
    (given_line (is_given query.start_after) (codes "StartAfter") start_after (codes ",\"Status\":200}\n"))
    ∙ given_line truncated (codes "NextContinuationToken") next _

listed_line : (at : Option ℕ) (client line : ℕ) (query : ListQuery) (page : PageShown) → spec.listed_text at client line query page ≡ line_of (object_of (listed_members at client line query page))
unfolding spec.listed_text
listed_line at client line query page =
    let size = spec.size_text line query page.truncated page.count in
    let bounds = spec.bounds_text query page.truncated page.next page.prefix page.start_after in
    start_line at client _
    ∙ ap (λ t. start_then at client t) (
    entries_line page.prefixes page.contents _
    ∙ ap (λ t. member_then (always (codes "CommonPrefixes") (array_of page.prefixes)) (member_then (always (codes "Contents") (array_of page.contents)) t)) (
    ap (λ t. spec.asked_text query page.delimiter ++ t) (ap (λ t. size ++ t) (bounds_line query page.truncated page.next page.prefix page.start_after) ∙ size_line line query page.truncated page.count _)
    ∙ asked_line query page.delimiter _
    )
    )
    ∙ sym (line_end (codes "At") (place_data at) (
    client_member client
    ∷ always (codes "CommonPrefixes") (array_of page.prefixes)
    ∷ always (codes "Contents") (array_of page.contents)
    ∷ only_if (is_given query.token) (codes "ContinuationToken") (string query.token)
    ∷ only_if (is_given query.delimiter) (codes "Delimiter") (string page.delimiter)
    ∷ only_if query.url (codes "EncodingType") (string (codes "url"))
    ∷ always (codes "IsTruncated") (boolean page.truncated)
    ∷ always (codes "KeyCount") (whole page.count)
    ∷ line_member line
    ∷ always (codes "MaxKeys") (whole query.max_keys)
    ∷ only_if page.truncated (codes "NextContinuationToken") (string page.next)
    ∷ always (codes "Prefix") (string page.prefix)
    ∷ only_if (is_given query.start_after) (codes "StartAfter") (string page.start_after)
    ∷ always (codes "Status") (whole 200)
    ∷ []
    ))

-- ---- listings of version 1

v1_asked_line : (query : V1Query) (delimiter rest : List ℕ)
    → spec.v1_asked_text query delimiter ++ rest
    ≡ member_then (only_if (is_given query.delimiter) (codes "Delimiter") (string delimiter))
    (member_then (only_if query.url (codes "EncodingType") (string (codes "url"))) rest)
unfolding escape_byte spec.v1_asked_text
v1_asked_line query delimiter rest =
    let cut = spec.given_text (is_given query.delimiter) (codes ",\"Delimiter\":") delimiter in
    let url = spec.given_text query.url (codes ",\"EncodingType\":") (codes "url") in
    append_assoc cut url rest
    ∙ ap (λ t. cut ++ t) (given_line query.url (codes "EncodingType") (codes "url") rest)
    ∙ given_line (is_given query.delimiter) (codes "Delimiter") delimiter _

v1_size_line : (line : ℕ) (query : V1Query) (truncated : Bool) (marker rest : List ℕ)
    → spec.v1_size_text line query truncated marker ++ rest
    ≡ member_then (always (codes "IsTruncated") (boolean truncated))
    (member_then (line_member line) (member_then (always (codes "Marker") (string marker)) (member_then (always (codes "MaxKeys") (whole query.max_keys)) rest)))
unfolding escape_byte spec.v1_size_text
v1_size_line line query truncated marker rest =
    let last = codes ",\"MaxKeys\":" ++ decimal query.max_keys in
    let marked = codes ",\"Marker\":" ++ (quoted marker ++ last) in
    let lines = codes ",\"Line\":" ++ (decimal line ++ marked) in
    ap (λ t. codes ",\"IsTruncated\":" ++ t) (
    append_assoc (spec.truth_text truncated) lines rest
    ∙ ap (λ t. t ++ (lines ++ rest)) (truth_line truncated)
    ∙ ap (λ t. compact_text (boolean truncated) ++ (codes ",\"Line\":" ++ t)) (
    append_assoc (decimal line) marked rest
    ∙ ap (λ t. decimal line ++ (codes ",\"Marker\":" ++ t)) (append_assoc (quoted marker) last rest)
    )
    )

next_line : (next : Option (List ℕ)) (rest : List ℕ) → spec.next_text next ++ rest ≡ member_then (if_some (codes "NextMarker") next) rest
unfolding escape_byte
next_line None rest = refl
next_line (Some marker) rest = refl

v1_bounds_line : (next : Option (List ℕ)) (prefix : List ℕ)
    → spec.v1_bounds_text next prefix
    ≡ member_then (if_some (codes "NextMarker") next)
    (member_then (always (codes "Prefix") (string prefix)) (member_then (always (codes "Status") (whole 200)) (125 ∷ 10 ∷ [])))
unfolding digits escape_byte spec.v1_bounds_text
v1_bounds_line next prefix = next_line next (codes ",\"Prefix\":" ++ (quoted prefix ++ codes ",\"Status\":200}\n"))

v1_line : (at : Option ℕ) (client line : ℕ) (query : V1Query) (page : V1Shown) → spec.v1_text at client line query page ≡ line_of (object_of (v1_members at client line query page))
unfolding spec.v1_text
v1_line at client line query page =
    let size = spec.v1_size_text line query page.truncated page.marker in
    start_line at client _
    ∙ ap (λ t. start_then at client t) (
    entries_line page.prefixes page.contents _
    ∙ ap (λ t. member_then (always (codes "CommonPrefixes") (array_of page.prefixes)) (member_then (always (codes "Contents") (array_of page.contents)) t)) (
    ap (λ t. spec.v1_asked_text query page.delimiter ++ t) (ap (λ t. size ++ t) (v1_bounds_line page.next page.prefix) ∙ v1_size_line line query page.truncated page.marker _)
    ∙ v1_asked_line query page.delimiter _
    )
    )
    ∙ sym (line_end (codes "At") (place_data at) (
    client_member client
    ∷ always (codes "CommonPrefixes") (array_of page.prefixes)
    ∷ always (codes "Contents") (array_of page.contents)
    ∷ only_if (is_given query.delimiter) (codes "Delimiter") (string page.delimiter)
    ∷ only_if query.url (codes "EncodingType") (string (codes "url"))
    ∷ always (codes "IsTruncated") (boolean page.truncated)
    ∷ line_member line
    ∷ always (codes "Marker") (string page.marker)
    ∷ always (codes "MaxKeys") (whole query.max_keys)
    ∷ if_some (codes "NextMarker") page.next
    ∷ always (codes "Prefix") (string page.prefix)
    ∷ always (codes "Status") (whole 200)
    ∷ []
    ))

pub reply_line : (dir : List (List ℕ)) (records : List Record) (at : Option ℕ) (client line : ℕ) (reply : Reply)
    → spec.reply_text dir records at client line reply ≡ line_of (object_of (reply_members dir records at client line reply))
reply_line dir records at client line (Put was) = short_line at client line (Some was) 200
reply_line dir records at client line Exists = short_line at client line None 412
reply_line dir records at client line Deleted = short_line at client line None 204
reply_line dir records at client line (Found val) = found_line at client line (record_at records val)
reply_line dir records at client line Missing = short_line at client line None 404
reply_line dir records at client line (Listed query page) = listed_line at client line query (page_shown dir records query page)
reply_line dir records at client line (ListedV1 query page) = v1_line at client line query (v1_shown dir records query page)
reply_line dir records at client line BadToken = short_line at client line None 400
reply_line dir records at client line NoSlot = short_line at client line None 503
