-- What a line says, or the first cause that it has alone, by cases on its verb and its fields; the query of a LIST or
-- LISTV1 line (Amazon S3 API reference, ListObjectsV2 and ListObjects: URI request parameters).
use Rattle.std.specs.Prelude.{ℕ, ◌==◌, ◌&&◌, ◌||◌, not, nat_lt, nat_le, min, Bool, false, List, [], ◌∷◌, length, Option, Some, None, Result, Ok, Err, codes, if◌then◌else◌}
use Rattle.std.specs.{List.slice_split, List.before_first, List.after_first, List.list_any, List.find, Option.option_map_or, Str.is_utf8, Str.bytes_eq}
use Rattle.std.specs.Str.Parse.{digits_value}
use Rattle.key_names.specs.Names.{most_name_bytes}
use Rattle.line_grammar.specs.declared.{cause.Cause.Cause, command.Command.Command, parameter.Version.Version, verb.PutWhen.PutWhen, verb.Verb.Verb}
use Rattle.line_grammar.specs.declared.cause.Cause.TheVariants.{NotUtf8, UnknownVerb, WrongFields, KeyTooLong, UnknownParameter, RepeatedParameter, BadListType, BadMaxKeys, BadEncoding, BadFetchOwner}
use Rattle.line_grammar.specs.declared.command.Command.TheVariants as says
use Rattle.line_grammar.specs.declared.parameter.Version.TheVariants.{V1, V2}
use Rattle.line_grammar.specs.declared.verb.PutWhen.TheVariants.{Always, IfAbsent}
use Rattle.line_grammar.specs.declared.verb.Verb.TheVariants as verbs
use Rattle.line_grammar.specs.Texts.{◌>>=◌, unescaped, is_number, key_read, numbers_read, etag_read}

-- the most entries of a page
abbrev pub most_keys : ℕ
most_keys = 1000

-- a parameter: its name as it stands, and its value, unescaped
pub record Parameter : Type 0 where
  pub name : List ℕ
  pub value : List ℕ

-- the parameters of the pieces of a query. Empty pieces are skipped; any other is cut at its first `=` into a name and
-- a value, and without one its value is empty.
unfoldable pub parameters_read : List (List ℕ) → Result (List Parameter) Cause
parameters_read [] = Ok []
parameters_read (piece ∷ pieces) =
    if length piece == 0 then parameters_read pieces
    else do
      value ← unescaped (after_first (λ b. b == 61) piece)
      others ← parameters_read pieces
      Ok (record { name = before_first (λ b. b == 61) piece; value = value } ∷ others)

-- ---- causes

abbrev pub is_one_of : List ℕ → List (List ℕ) → Bool
is_one_of text texts = list_any (bytes_eq text) texts

-- the names of the parameters that a version takes: version 1 is that of a LISTV1 line, version 2 that of a LIST line
abbrev pub known : Version → List (List ℕ)
known V1 = codes "prefix" ∷ codes "delimiter" ∷ codes "max-keys" ∷ codes "encoding-type" ∷ codes "marker" ∷ []
known V2 = codes "prefix" ∷ codes "delimiter" ∷ codes "max-keys" ∷ codes "encoding-type" ∷ codes "start-after" ∷ codes "continuation-token" ∷ codes "list-type" ∷ codes "fetch-owner" ∷ []

-- the names of the texts that are compared with names
abbrev pub compared : Version → List (List ℕ)
compared V1 = codes "prefix" ∷ codes "delimiter" ∷ codes "start-after" ∷ codes "marker" ∷ []
compared V2 = codes "prefix" ∷ codes "delimiter" ∷ codes "start-after" ∷ []

-- one or more digits, with a number of at most 2,147,483,647, the greatest of 32 bits with a sign
unfoldable pub is_max_keys : List ℕ → Bool
is_max_keys value = is_number value && nat_le (digits_value 10 value) 2147483647

-- a parameter of this name has a value that it does not take
abbrev pub has_other : List ℕ → (List ℕ → Bool) → List Parameter → Bool
has_other name is_value ps = list_any (λ (p : Parameter). bytes_eq p.name name && not (is_value p.value)) ps

-- a name stands twice
abbrev pub repeats : List Parameter → Bool
repeats [] = false
repeats (p ∷ ps) = list_any (λ (q : Parameter). bytes_eq q.name p.name) ps || repeats ps

-- where the parameters of a query of this version have a cause
abbrev pub have : Version → List Parameter → Cause → Bool
have version ps KeyTooLong = list_any (λ (p : Parameter). is_one_of p.name (compared version) && nat_lt most_name_bytes (length p.value)) ps
have version ps UnknownParameter = list_any (λ (p : Parameter). not (is_one_of p.name (known version))) ps
have version ps RepeatedParameter = repeats ps
have version ps BadListType = has_other (codes "list-type") (λ value. bytes_eq value (codes "2")) ps
have version ps BadMaxKeys = has_other (codes "max-keys") is_max_keys ps
have version ps BadEncoding = has_other (codes "encoding-type") (λ value. length value == 0 || bytes_eq value (codes "url")) ps
have version ps BadFetchOwner = has_other (codes "fetch-owner") (λ value. length value == 0 || bytes_eq value (codes "true") || bytes_eq value (codes "false")) ps
have version ps cause = false

-- the causes of parameters, in the order in which they are tested
abbrev pub parameter_causes : List Cause
parameter_causes = KeyTooLong ∷ UnknownParameter ∷ RepeatedParameter ∷ BadListType ∷ BadMaxKeys ∷ BadEncoding ∷ BadFetchOwner ∷ []

-- ---- meaning

-- the value of the parameter of this name, and the empty text where there is none
abbrev pub value_of : List ℕ → List Parameter → List ℕ
value_of name ps = option_map_or (λ (p : Parameter). p.value) (find (λ (p : Parameter). bytes_eq p.name name) ps) []

-- the most entries of a page: the number, or 1,000 where that is less or there is no number
abbrev pub most_entries : List ℕ → ℕ
most_entries value = if is_max_keys value then min (digits_value 10 value) most_keys else most_keys

-- the listing of a version that these parameters ask for, of which no two have one name
abbrev pub listing_said : Version → List Parameter → Command
listing_said V1 ps = says.ListV1 (record {
  prefix = value_of (codes "prefix") ps;
  delimiter = value_of (codes "delimiter") ps;
  marker = value_of (codes "marker") ps;
  max_keys = most_entries (value_of (codes "max-keys") ps);
  url = bytes_eq (value_of (codes "encoding-type") ps) (codes "url");
})
listing_said V2 ps = says.List (record {
  prefix = value_of (codes "prefix") ps;
  delimiter = value_of (codes "delimiter") ps;
  start_after = value_of (codes "start-after") ps;
  token = value_of (codes "continuation-token") ps;
  max_keys = most_entries (value_of (codes "max-keys") ps);
  url = bytes_eq (value_of (codes "encoding-type") ps) (codes "url");
})

-- a query, after one `?` or none, cut at each `&`: the listing that it asks for, or the first cause of its parameters
unfoldable pub without_mark : List ℕ → List ℕ
without_mark [] = []
without_mark (b ∷ bytes) = if b == 63 then bytes else b ∷ bytes

unfoldable pub listing_read : Version → List ℕ → Result Command Cause
listing_read version query = do
  ps ← parameters_read (slice_split (λ b. b == 38) (without_mark query))
  option_map_or Err (find (have version ps) parameter_causes) (Ok (listing_said version ps))

-- ---- one line

-- the verb of this text, in upper case
abbrev pub verb_of : List ℕ → Option Verb
verb_of text =
    if bytes_eq text (codes "CLIENT") then Some verbs.Client
    else if bytes_eq text (codes "PUT") then Some (verbs.Put Always)
    else if bytes_eq text (codes "PUTNEW") then Some (verbs.Put IfAbsent)
    else if bytes_eq text (codes "DELETE") then Some verbs.Delete
    else if bytes_eq text (codes "HEAD") then Some verbs.Head
    else if bytes_eq text (codes "LIST") then Some (verbs.List V2)
    else if bytes_eq text (codes "LISTV1") then Some (verbs.List V1)
    else if bytes_eq text (codes "NEXT") then Some verbs.Next
    else None

-- a PUT or PUTNEW line with these fields
unfoldable pub put_read : PutWhen → List ℕ → List ℕ → List ℕ → List ℕ → Result Command Cause
put_read when key size etag modified = do
  name ← key_read key
  numbers ← numbers_read size modified
  tag ← etag_read etag
  Ok (says.Put when name (record { size = numbers.0; etag = tag; modified = numbers.1 }))

-- a line of this verb, with these fields after it. A listing without a query has an empty one.
unfoldable pub read_fields : Verb → List (List ℕ) → Result Command Cause
read_fields verbs.Client [] = Ok says.Client
read_fields (verbs.Put when) (key ∷ size ∷ etag ∷ modified ∷ []) = put_read when key size etag modified
read_fields verbs.Delete (key ∷ []) = key_read key >>= (λ name. Ok (says.Delete name))
read_fields verbs.Head (key ∷ []) = key_read key >>= (λ name. Ok (says.Head name))
read_fields (verbs.List version) [] = listing_read version []
read_fields (verbs.List version) (query ∷ []) = listing_read version query
read_fields verbs.Next [] = Ok says.Next
read_fields verb fields = Err WrongFields

-- a line with these fields, of which the first is its verb
unfoldable pub read_line : List (List ℕ) → Result Command Cause
read_line [] = Err UnknownVerb
read_line (verb ∷ fields) = option_map_or (λ (v : Verb). read_fields v fields) (verb_of verb) (Err UnknownVerb)

-- what a line says, or the first cause that it has alone, whatever came before it. It is cut into fields at each space,
-- so two spaces in a row have an empty field between them.
unfoldable pub reading_of : List ℕ → Result Command Cause
reading_of text = if is_utf8 text then read_line (slice_split (λ b. b == 32) text) else Err NotUtf8
