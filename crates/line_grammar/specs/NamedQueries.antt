-- Helper: the headline does not rest on this file.
-- The query of a LIST or LISTV1 line as the code reads it: each name of a parameter is one that there is.
use Rattle.std.specs.Prelude.{ℕ, ◌==◌, ◌&&◌, ◌||◌, not, nat_lt, Bool, true, false, List, [], ◌∷◌, length, Option, Some, None, Result, Ok, Err, codes, if◌then◌else◌}
use Rattle.std.specs.List.{slice_split, before_first, after_first, list_any, find}
use Rattle.std.specs.Option.{option_map_or}
use Rattle.std.specs.Str.{bytes_eq}
use Rattle.key_names.specs.Names.{most_name_bytes}
use Rattle.line_grammar.specs.declared.cause.Cause.{Cause}
use Rattle.line_grammar.specs.declared.cause.Cause.TheVariants.{KeyTooLong, UnknownParameter, RepeatedParameter, BadListType, BadMaxKeys, BadEncoding, BadFetchOwner}
use Rattle.line_grammar.specs.declared.parameter.Name.{Name}
use Rattle.line_grammar.specs.declared.parameter.Name.TheVariants.{ListType, Prefix, Delimiter, MaxKeys, StartAfter, ContinuationToken, EncodingType, FetchOwner, Marker}
use Rattle.line_grammar.specs.declared.parameter.Version.{Version}
use Rattle.line_grammar.specs.declared.parameter.Version.TheVariants.{V1, V2}
use Rattle.line_grammar.specs.declared.values.Values.{Values}
use Rattle.line_grammar.specs.Texts.{◌>>=◌, unescaped}
use Rattle.line_grammar.specs.Line.{most_keys, without_mark, is_max_keys, most_entries, parameter_causes}

-- the parameter of this name. Names are read as they stand.
abbrev pub name_written : List ℕ → Option Name
name_written text =
    if bytes_eq text (codes "list-type") then Some ListType
    else if bytes_eq text (codes "prefix") then Some Prefix
    else if bytes_eq text (codes "delimiter") then Some Delimiter
    else if bytes_eq text (codes "max-keys") then Some MaxKeys
    else if bytes_eq text (codes "start-after") then Some StartAfter
    else if bytes_eq text (codes "continuation-token") then Some ContinuationToken
    else if bytes_eq text (codes "encoding-type") then Some EncodingType
    else if bytes_eq text (codes "fetch-owner") then Some FetchOwner
    else if bytes_eq text (codes "marker") then Some Marker
    else None

-- the pieces of a query: it is cut at each `&`
unfoldable pub pieces_of : List ℕ → List (List ℕ)
pieces_of query = slice_split (λ b. b == 38) (without_mark query)

-- a piece is cut at its first `=` into a name and a value; without one the value is empty
abbrev pub name_of_piece : List ℕ → List ℕ
name_of_piece piece = before_first (λ b. b == 61) piece

abbrev pub value_of_piece : List ℕ → List ℕ
value_of_piece piece = after_first (λ b. b == 61) piece

-- a parameter: its name, where it is one that there is, and its value, unescaped
pub record Parameter : Type 0 where
  pub name : Option Name
  pub value : List ℕ

unfoldable pub parameter_read : List ℕ → Result Parameter Cause
parameter_read piece = do
  value ← unescaped (value_of_piece piece)
  Ok (record { name = name_written (name_of_piece piece); value = value })

-- the parameters of these pieces. Empty pieces are skipped.
unfoldable pub parameters_read : List (List ℕ) → Result (List Parameter) Cause
parameters_read [] = Ok []
parameters_read (piece ∷ pieces) =
    if length piece == 0 then parameters_read pieces
    else do
      first ← parameter_read piece
      others ← parameters_read pieces
      Ok (first ∷ others)

-- ---- causes

abbrev pub place_of_name : Name → ℕ
place_of_name ListType = 0
place_of_name Prefix = 1
place_of_name Delimiter = 2
place_of_name MaxKeys = 3
place_of_name StartAfter = 4
place_of_name ContinuationToken = 5
place_of_name EncodingType = 6
place_of_name FetchOwner = 7
place_of_name Marker = 8

abbrev pub is_name : Name → Option Name → Bool
is_name name None = false
is_name name (Some other) = place_of_name other == place_of_name name

abbrev pub is_same_name : Option Name → Option Name → Bool
is_same_name None other = false
is_same_name (Some name) other = is_name name other

-- whether a query of this version takes the parameter, and whether its value is compared with names
abbrev pub is_taken : Version → Name → Bool
is_taken version Prefix = true
is_taken version Delimiter = true
is_taken version MaxKeys = true
is_taken version EncodingType = true
is_taken V1 Marker = true
is_taken V2 Marker = false
is_taken V1 name = false
is_taken V2 name = true

abbrev pub is_compared : Version → Name → Bool
is_compared version Prefix = true
is_compared version Delimiter = true
is_compared version StartAfter = true
is_compared V1 Marker = true
is_compared version name = false

-- there is no parameter of this name, or the query takes none
abbrev pub is_unknown : Version → Option Name → Bool
is_unknown version None = true
is_unknown version (Some name) = not (is_taken version name)

-- a text of more than 1,024 bytes, where it is one that is compared with names
abbrev pub is_too_long : Version → Parameter → Bool
is_too_long version p = option_map_or (is_compared version) p.name false && nat_lt most_name_bytes (length p.value)

abbrev pub is_list_type : List ℕ → Bool
is_list_type value = bytes_eq value (codes "2")

abbrev pub is_encoding : List ℕ → Bool
is_encoding value = length value == 0 || bytes_eq value (codes "url")

abbrev pub is_fetch_owner : List ℕ → Bool
is_fetch_owner value = length value == 0 || bytes_eq value (codes "true") || bytes_eq value (codes "false")

-- a parameter of this name has a value that it does not take
abbrev pub has_other : Name → (List ℕ → Bool) → List Parameter → Bool
has_other name is_value ps = list_any (λ p. is_name name p.name && not (is_value p.value)) ps

-- a name stands twice
abbrev pub repeats : List Parameter → Bool
repeats [] = false
repeats (p ∷ ps) = list_any (λ q. is_same_name p.name q.name) ps || repeats ps

-- where the parameters of a query of this version have a cause
abbrev pub have : Version → List Parameter → Cause → Bool
have version ps KeyTooLong = list_any (is_too_long version) ps
have version ps UnknownParameter = list_any (λ p. is_unknown version p.name) ps
have version ps RepeatedParameter = repeats ps
have version ps BadListType = has_other ListType is_list_type ps
have version ps BadMaxKeys = has_other MaxKeys is_max_keys ps
have version ps BadEncoding = has_other EncodingType is_encoding ps
have version ps BadFetchOwner = has_other FetchOwner is_fetch_owner ps
have version ps cause = false

-- ---- meaning

-- the value of the parameter of this name, where there is one
abbrev pub value_of : Name → List Parameter → Option (List ℕ)
value_of name [] = None
value_of name (p ∷ ps) = if is_name name p.name then Some p.value else value_of name ps

abbrev pub is_url : List ℕ → Bool
is_url value = bytes_eq value (codes "url")

abbrev pub as_it_is : List ℕ → List ℕ
as_it_is value = value

-- what these parameters say, of which no two have one name
abbrev pub values_said : List Parameter → Values
values_said ps = record {
  prefix = option_map_or as_it_is (value_of Prefix ps) [];
  delimiter = option_map_or as_it_is (value_of Delimiter ps) [];
  start_after = option_map_or as_it_is (value_of StartAfter ps) [];
  token = option_map_or as_it_is (value_of ContinuationToken ps) [];
  marker = option_map_or as_it_is (value_of Marker ps) [];
  max_keys = option_map_or most_entries (value_of MaxKeys ps) most_keys;
  url = option_map_or is_url (value_of EncodingType ps) false;
}

abbrev pub values_or : Option Cause → Values → Result Values Cause
values_or None values = Ok values
values_or (Some cause) values = Err cause

-- what these parameters say, or the first cause that they have
abbrev pub values_of : Version → List Parameter → Result Values Cause
values_of version ps = values_or (find (have version ps) parameter_causes) (values_said ps)

unfoldable pub query_by_names : Version → List ℕ → Result Values Cause
query_by_names version query = do
  parameters ← parameters_read (pieces_of query)
  values_of version parameters
