-- Helper: the headline does not rest on this file.
-- What holds of every line that is read.
use Rattle.std.specs.Prelude.{◌≤◌, length}
use Rattle.std.specs.Str.{IsUtf8}
use Rattle.key_names.specs.Names.{IsFine, most_name_bytes}
use Rattle.bucket_terms.specs.declared.list_query.ListQuery.{ListQuery}
use Rattle.bucket_terms.specs.declared.v1_query.V1Query.{V1Query}
use Rattle.line_grammar.specs.Line.{most_keys}
use Rattle.line_grammar.specs.declared.command.Command.{Command}
use Rattle.line_grammar.specs.declared.command.Command.TheVariants as says

-- a query that a listing takes: texts of UTF-8, three of them of at most 1,024 bytes, and at most 1,000 entries
pub record IsFineQuery (query : ListQuery) : Type 0 where
  pub short_prefix : length query.prefix ≤ most_name_bytes
  pub short_delimiter : length query.delimiter ≤ most_name_bytes
  pub short_start_after : length query.start_after ≤ most_name_bytes
  pub prefix : IsUtf8 query.prefix
  pub delimiter : IsUtf8 query.delimiter
  pub start_after : IsUtf8 query.start_after
  pub token : IsUtf8 query.token
  pub entries : query.max_keys ≤ most_keys

-- the same of a query of version 1
pub record IsFineV1Query (query : V1Query) : Type 0 where
  pub short_prefix : length query.prefix ≤ most_name_bytes
  pub short_delimiter : length query.delimiter ≤ most_name_bytes
  pub short_marker : length query.marker ≤ most_name_bytes
  pub prefix : IsUtf8 query.prefix
  pub delimiter : IsUtf8 query.delimiter
  pub marker : IsUtf8 query.marker
  pub entries : query.max_keys ≤ most_keys

-- what a line that is read says: its name is that of an object, its query one that a listing takes
abbrev pub IsFineCommand : Command → Type 0
IsFineCommand says.Client = Unit {0}
IsFineCommand (says.Put when name fields) = IsFine name
IsFineCommand (says.Delete name) = IsFine name
IsFineCommand (says.Head name) = IsFine name
IsFineCommand (says.List query) = IsFineQuery query
IsFineCommand (says.ListV1 query) = IsFineV1Query query
IsFineCommand says.Next = Unit {0}
