-- Helper: the headline does not rest on this file.
-- What a query says, as values for a listing of either version.
use Rattle.std.specs.Prelude.{ℕ, false, List, [], Result, Ok, Err, codes}
use Rattle.std.specs.List.{slice_split, find}
use Rattle.std.specs.Option.{option_map_or}
use Rattle.std.specs.Str.{bytes_eq}
use Rattle.std.specs.Prelude.{◌==◌}
use Rattle.bucket_terms.specs.declared.list_query.ListQuery.{ListQuery}
use Rattle.bucket_terms.specs.declared.v1_query.V1Query.{V1Query}
use Rattle.line_grammar.specs.declared.cause.Cause.{Cause}
use Rattle.line_grammar.specs.declared.command.Command.{Command}
use Rattle.line_grammar.specs.declared.command.Command.TheVariants as says
use Rattle.line_grammar.specs.declared.parameter.Version.{Version}
use Rattle.line_grammar.specs.declared.parameter.Version.TheVariants.{V1, V2}
use Rattle.line_grammar.specs.declared.values.Values.{Values}
use Rattle.line_grammar.specs.Texts.{◌>>=◌}
use Rattle.line_grammar.specs.Line.{Parameter, most_keys, most_entries, value_of, parameters_read, parameter_causes, have, without_mark}

-- what these parameters say, of which no two have one name
abbrev pub values_said : List Parameter → Values
values_said ps = record {
  prefix = value_of (codes "prefix") ps;
  delimiter = value_of (codes "delimiter") ps;
  start_after = value_of (codes "start-after") ps;
  token = value_of (codes "continuation-token") ps;
  marker = value_of (codes "marker") ps;
  max_keys = most_entries (value_of (codes "max-keys") ps);
  url = bytes_eq (value_of (codes "encoding-type") ps) (codes "url");
}

-- where no parameter is given
abbrev pub no_values : Values
no_values = record { prefix = []; delimiter = []; start_after = []; token = []; marker = []; max_keys = most_keys; url = false }

-- the listing of either version that the values ask
abbrev pub list_query : Values → ListQuery
list_query v = record { prefix = v.prefix; delimiter = v.delimiter; start_after = v.start_after; token = v.token; max_keys = v.max_keys; url = v.url }

abbrev pub v1_query : Values → V1Query
v1_query v = record { prefix = v.prefix; delimiter = v.delimiter; marker = v.marker; max_keys = v.max_keys; url = v.url }

abbrev pub listing_of : Version → Values → Command
listing_of V1 values = says.ListV1 (v1_query values)
listing_of V2 values = says.List (list_query values)

-- what a query says, or the first cause that its parameters have
unfoldable pub query_read : Version → List ℕ → Result Values Cause
query_read version query = do
  ps ← parameters_read (slice_split (λ b. b == 38) (without_mark query))
  option_map_or Err (find (have version ps) parameter_causes) (Ok (values_said ps))

-- the LIST or LISTV1 line with this query
abbrev pub list_read : Version → List ℕ → Result Command Cause
list_read version text = query_read version text >>= (λ values. Ok (listing_of version values))
