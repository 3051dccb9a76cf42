-- What is asked by all parameters that are left: the meaning of the loop over a query's pieces.
use Rattle.std.proofs.Common.{ℕ, List, [], ◌∷◌, None, Result}
use Rattle.std.specs.Prelude.{if◌then◌else◌}
use Rattle.line_grammar.specs.declared.cause.Cause.{Cause}
use Rattle.line_grammar.specs.declared.parameter.Name.{Name}
use Rattle.line_grammar.specs.declared.parameter.Name.TheVariants.{Prefix, Delimiter, MaxKeys, StartAfter, ContinuationToken, EncodingType, Marker}
use Rattle.line_grammar.specs.declared.parameter.Version.{Version}
use Rattle.line_grammar.specs.declared.values.Values.{Values}
use Rattle.line_grammar.specs.Texts.{◌>>=◌}
use Rattle.line_grammar.specs.Asking.{Asking, asking_with}
use Rattle.line_grammar.specs.NamedQueries.{Parameter, parameters_read, is_name, is_url, as_it_is, values_or}
use Rattle.line_grammar.specs.Line.{most_entries}
use Rattle.line_grammar.specs.QueryValues.{no_values}

abbrev pub nothing_asked : Version → Asking
nothing_asked version = record { version = version; values = no_values; names = []; cause = None }

-- the values, with the parameters that are left
abbrev pub values_by : Asking → List Parameter → Result Values Cause
values_by so_far [] = values_or so_far.cause so_far.values
values_by so_far (p ∷ parameters) = values_by (asking_with so_far p) parameters

-- what the last parameter of this name says, or else this
abbrev pub given : {A : Type 0} → Name → (List ℕ → A) → A → List Parameter → A
given name says other [] = other
given name says other (p ∷ ps) = given name says (if is_name name p.name then says p.value else other) ps

-- the values with these parameters, of which the last of a name counts
abbrev pub with_all : Values → List Parameter → Values
with_all other ps = record {
  prefix = given Prefix as_it_is other.prefix ps;
  delimiter = given Delimiter as_it_is other.delimiter ps;
  start_after = given StartAfter as_it_is other.start_after ps;
  token = given ContinuationToken as_it_is other.token ps;
  marker = given Marker as_it_is other.marker ps;
  max_keys = given MaxKeys most_entries other.max_keys ps;
  url = given EncodingType is_url other.url ps;
}

-- the values, with the pieces that are left
abbrev pub pieces_asked : Asking → List (List ℕ) → Result Values Cause
pieces_asked so_far pieces = parameters_read pieces >>= values_by so_far
