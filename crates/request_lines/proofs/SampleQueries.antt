-- What the listings of the generated session say.
use Rattle.std.proofs.Common.{◌≡◌, ℕ, ◌<◌, List, ◌∷◌, ◌++◌, codes, refl, Ok, zero, suc, arith}
use Rattle.std.specs.Char.{encode_utf8}
use Rattle.std.specs.Str.{is_utf8, chars}
use Rattle.std.specs.Fmt.{decimal, digits}
use Rattle.percent_encoding.specs.Percent.{percent_decode}
use Rattle.line_grammar.specs.declared.command.Command.TheVariants as says
use Rattle.line_grammar.specs.Texts.{unescaped, escapes_are_whole, is_number}
use Rattle.line_grammar.specs.Line.{listing_read, parameters_read, without_mark, is_max_keys, reading_of, read_line, read_fields}
use Rattle.request_lines.specs.SampleSession.{sample_query}

-- the query of a listing, and its line without its end
abbrev pub query_text : ℕ → List ℕ
query_text client = codes "prefix=s" ++ decimal client ++ codes "/&max-keys=100"

abbrev pub list_line : ℕ → List ℕ
list_line client = codes "LIST" ++ 32 ∷ query_text client

pub list_reading : (client : ℕ) → client < 4 → reading_of (list_line client) ≡ Ok (says.List (sample_query client))
unfolding reading_of read_line read_fields listing_read without_mark parameters_read unescaped escapes_are_whole is_number is_max_keys is_utf8 percent_decode chars encode_utf8 digits
list_reading zero below = refl
list_reading (suc zero) below = refl
list_reading (suc (suc zero)) below = refl
list_reading (suc (suc (suc zero))) below = refl
list_reading (suc (suc (suc (suc client)))) below = absurd (omega arith)
