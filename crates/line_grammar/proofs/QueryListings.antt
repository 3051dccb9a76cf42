-- The listing that a query asks for is that of its values.
use Rattle.std.proofs.Common.{◌≡◌, ℕ, List, [], Option, Some, None, Result, Ok, Err, refl}
use Rattle.std.specs.List.{slice_split, find}
use Rattle.std.specs.Option.{option_map_or}
use Rattle.std.specs.Prelude.{◌==◌}
use Rattle.line_grammar.specs.declared.cause.Cause.{Cause}
use Rattle.line_grammar.specs.declared.parameter.Version.{Version}
use Rattle.line_grammar.specs.declared.parameter.Version.TheVariants.{V1, V2}
use Rattle.line_grammar.specs.Texts.{◌>>=◌, is_number}
use Rattle.line_grammar.specs.Line.{Parameter, listing_said, listing_read, parameters_read, parameter_causes, have, without_mark, is_max_keys}
use Rattle.line_grammar.specs.QueryValues.{values_said, no_values, listing_of, query_read, list_read}

by_cause : (version : Version) (ps : List Parameter) (cause : Option Cause)
    → option_map_or Err cause (Ok (listing_said version ps)) ≡ (option_map_or Err cause (Ok (values_said ps)) >>= (λ values. Ok (listing_of version values)))
by_cause V1 ps None = refl
by_cause V2 ps None = refl
by_cause version ps (Some cause) = refl

by_read : (version : Version) (read : Result (List Parameter) Cause)
    → (read >>= (λ ps. option_map_or Err (find (have version ps) parameter_causes) (Ok (listing_said version ps))))
    ≡ ((read >>= (λ ps. option_map_or Err (find (have version ps) parameter_causes) (Ok (values_said ps)))) >>= (λ values. Ok (listing_of version values)))
by_read version (Ok ps) = by_cause version ps (find (have version ps) parameter_causes)
by_read version (Err cause) = refl

pub listing_read_is : (version : Version) (query : List ℕ) → listing_read version query ≡ list_read version query
unfolding listing_read query_read
listing_read_is version query = by_read version (parameters_read (slice_split (λ b. b == 38) (without_mark query)))

-- an empty query has no parameters
pub no_query : (version : Version) → listing_read version [] ≡ Ok (listing_of version no_values)
unfolding listing_read parameters_read without_mark is_max_keys is_number
no_query V1 = refl
no_query V2 = refl
