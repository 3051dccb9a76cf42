-- Helper: the headline does not rest on this file.
-- How a query is read, piece by piece.
use Rattle.std.specs.Prelude.{◌≡◌, ℕ, ◌==◌, List, length, Result, Ok, Err, if◌then◌else◌}
use Rattle.line_grammar.specs.declared.cause.Cause.{Cause}
use Rattle.line_grammar.specs.declared.line_error.LineError.{LineError}
use Rattle.line_grammar.specs.declared.line_error.LineError.TheVariants as errors
use Rattle.line_grammar.specs.declared.query as code
use Rattle.line_grammar.specs.Texts.{◌>>=◌}
use Rattle.line_grammar.specs.Asking.{Asking, asking_with}
use Rattle.line_grammar.specs.NamedQueries.{Parameter, parameter_read}

-- what is kept of the parameters so far
abbrev pub asking : code.Asking.Asking → Asking
asking so_far = record { version = so_far.version; values = so_far.values; names = so_far.names.items; cause = so_far.cause }

abbrev pub parameter : code.Parameter.Parameter → Parameter
parameter p = record { name = p.name; value = p.value }

-- with one more piece
unfoldable pub piece_asked : Asking → List ℕ → Result Asking Cause
piece_asked so_far piece =
    if length piece == 0 then Ok so_far
    else do
      p ← parameter_read piece
      Ok (asking_with so_far p)

-- the piece was taken, or it has this cause
abbrev pub TakesPiece : Asking → List ℕ → Asking → Result (Unit {0}) LineError → Type 0
TakesPiece so_far piece after (Ok done) = piece_asked so_far piece ≡ Ok after
TakesPiece so_far piece after (Err (errors.Faulty cause)) = piece_asked so_far piece ≡ Err cause
TakesPiece so_far piece after (Err errors.NoMemory) = Unit {0}
