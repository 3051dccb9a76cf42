-- Helper: the headline does not rest on this file.
-- How a reader of a query keeps the parameters so far.
use Rattle.std.specs.Prelude.{ℕ, ◌==◌, ◌&&◌, not, nat_lt, Bool, List, [], ◌∷◌, ◌++◌, length, Option, Some, None, if◌then◌else◌}
use Rattle.std.specs.List.{list_any}
use Rattle.std.specs.Option.{option_or}
use Rattle.key_names.specs.Names.{most_name_bytes}
use Rattle.line_grammar.specs.declared.cause.Cause.{Cause}
use Rattle.line_grammar.specs.declared.cause.Cause.TheVariants.{KeyTooLong, UnknownParameter, RepeatedParameter, BadListType, BadMaxKeys, BadEncoding, BadFetchOwner}
use Rattle.line_grammar.specs.declared.parameter.Name.{Name}
use Rattle.line_grammar.specs.declared.parameter.Name.TheVariants.{ListType, Prefix, Delimiter, MaxKeys, StartAfter, ContinuationToken, EncodingType, FetchOwner, Marker}
use Rattle.line_grammar.specs.declared.parameter.Version.{Version}
use Rattle.line_grammar.specs.declared.values.Values.{Values}
use Rattle.line_grammar.specs.Causes.{earliest}
use Rattle.line_grammar.specs.NamedQueries.{Parameter, place_of_name, is_taken, is_compared, is_list_type, is_encoding, is_fetch_owner, is_url}
use Rattle.line_grammar.specs.Line.{is_max_keys, most_entries}

-- whether the name is among these
abbrev pub stands_in : List Name → Name → Bool
stands_in names name = list_any (λ other. place_of_name other == place_of_name name) names

unfoldable pub is_long_for : Version → Name → List ℕ → Bool
is_long_for version name value = is_compared version name && nat_lt most_name_bytes (length value)

-- the cause of a value that its parameter does not take
unfoldable pub value_cause : Option Name → List ℕ → Option Cause
value_cause (Some ListType) value = if is_list_type value then None else Some BadListType
value_cause (Some MaxKeys) value = if is_max_keys value then None else Some BadMaxKeys
value_cause (Some EncodingType) value = if is_encoding value then None else Some BadEncoding
value_cause (Some FetchOwner) value = if is_fetch_owner value then None else Some BadFetchOwner
value_cause name value = None

-- the first cause of a parameter after these names that is none of its value alone
unfoldable pub name_cause : Version → List Name → Option Name → List ℕ → Option Cause
name_cause version names None value = Some UnknownParameter
name_cause version names (Some name) value =
    if is_long_for version name value then Some KeyTooLong
    else if not (is_taken version name) then Some UnknownParameter
    else if stands_in names name then Some RepeatedParameter
    else None

-- the first cause of a parameter after these names: causes of values come last
unfoldable pub parameter_cause : Version → List Name → Option Name → List ℕ → Option Cause
parameter_cause version names name value = option_or (name_cause version names name value) (value_cause name value)

-- the names, each once, with this one
unfoldable pub with_name : List Name → Option Name → List Name
with_name names None = names
with_name names (Some name) = if stands_in names name then names else names ++ name ∷ []

-- the values with this parameter
unfoldable pub with_parameter : Values → Option Name → List ℕ → Values
with_parameter values (Some Prefix) value = record values { prefix = value }
with_parameter values (Some Delimiter) value = record values { delimiter = value }
with_parameter values (Some StartAfter) value = record values { start_after = value }
with_parameter values (Some ContinuationToken) value = record values { token = value }
with_parameter values (Some Marker) value = record values { marker = value }
with_parameter values (Some MaxKeys) value = record values { max_keys = most_entries value }
with_parameter values (Some EncodingType) value = record values { url = is_url value }
with_parameter values name value = values

-- what the parameters so far ask of a listing of this version: their values, their names, and the earliest of their
-- causes
pub record Asking : Type 0 where
  pub version : Version
  pub values : Values
  pub names : List Name
  pub cause : Option Cause

-- with one more parameter
unfoldable pub asking_with : Asking → Parameter → Asking
asking_with so_far p = record {
  version = so_far.version;
  values = with_parameter so_far.values p.name p.value;
  names = with_name so_far.names p.name;
  cause = earliest so_far.cause (parameter_cause so_far.version so_far.names p.name p.value);
}
