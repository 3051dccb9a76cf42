-- A query is read piece by piece.
use Rattle.std.proofs.Common.{◌≡◌, ℕ, Bool, true, false, List, [], ◌∷◌, length, Result, Ok, Err, refl, ap, sym, ◌∙◌}
use Rattle.std.specs.Prelude.{◌==◌, if◌then◌else◌}
use Rattle.line_grammar.specs.declared.cause.Cause.{Cause}
use Rattle.line_grammar.specs.declared.line_error.LineError.{LineError}
use Rattle.line_grammar.specs.declared.line_error.LineError.TheVariants as errors
use Rattle.std.specs.List.{slice_split}
use Rattle.line_grammar.specs.declared.parameter.Version.{Version}
use Rattle.line_grammar.specs.declared.values.Values.{Values}
use Rattle.line_grammar.specs.Pieces.{piece_asked, TakesPiece}
use Rattle.line_grammar.specs.Asking.{Asking, asking_with}
use Rattle.line_grammar.proofs.AskedAll.{nothing_asked, values_by, pieces_asked}
use Rattle.line_grammar.specs.NamedQueries.{Parameter, parameter_read, parameters_read, values_or, pieces_of}
use Rattle.line_grammar.specs.Line.{without_mark}
use Rattle.line_grammar.specs.QueryValues.{query_read}
use Rattle.line_grammar.proofs.QueryLaws.{query_read_by}
use Rattle.line_grammar.specs.Texts.{◌>>=◌}
use Rattle.line_grammar.specs.ReadAnswers.{Fails}

-- a first piece, and those after it
pieces_more : (so_far : Asking) (piece : List ℕ) (pieces : List (List ℕ)) → pieces_asked so_far (piece ∷ pieces) ≡ (piece_asked so_far piece >>= (λ after. pieces_asked after pieces))
unfolding piece_asked parameters_read
pieces_more so_far piece pieces = by_test (length piece == 0)
  where
    with_others : (p : Parameter) (others : Result (List Parameter) Cause)
        → ((others >>= (λ ps. Ok (p ∷ ps))) >>= values_by so_far) ≡ (others >>= values_by (asking_with so_far p))
    with_others p (Ok ps) = refl
    with_others p (Err cause) = refl

    with_first : (first : Result Parameter Cause)
        → ((first >>= (λ p. parameters_read pieces >>= (λ ps. Ok (p ∷ ps)))) >>= values_by so_far)
        ≡ ((first >>= (λ p. Ok (asking_with so_far p))) >>= (λ after. pieces_asked after pieces))
    with_first (Ok p) = with_others p (parameters_read pieces)
    with_first (Err cause) = refl

    by_test : (b : Bool)
        → ((if b then parameters_read pieces else (parameter_read piece >>= (λ p. parameters_read pieces >>= (λ ps. Ok (p ∷ ps))))) >>= values_by so_far)
        ≡ ((if b then Ok so_far else (parameter_read piece >>= (λ p. Ok (asking_with so_far p)))) >>= (λ after. pieces_asked after pieces))
    by_test true = refl
    by_test false = with_first (parameter_read piece)

-- a piece that is taken
pub piece_taken : (so_far after : Asking) (piece : List ℕ) (pieces : List (List ℕ)) → piece_asked so_far piece ≡ Ok after → pieces_asked so_far (piece ∷ pieces) ≡ pieces_asked after pieces
piece_taken so_far after piece pieces is = pieces_more so_far piece pieces ∙ ap (λ read. read >>= (λ next. pieces_asked next pieces)) is

-- a piece that has a cause
pub piece_refused : (so_far : Asking) (piece : List ℕ) (pieces : List (List ℕ)) (cause : Cause) → piece_asked so_far piece ≡ Err cause → pieces_asked so_far (piece ∷ pieces) ≡ Err cause
piece_refused so_far piece pieces cause is = pieces_more so_far piece pieces ∙ ap (λ read. read >>= (λ next. pieces_asked next pieces)) is

pub piece_fails : (so_far after : Asking) (piece : List ℕ) (pieces : List (List ℕ)) (e : LineError) (all : Result Values Cause) → TakesPiece so_far piece after (Err e)
    → pieces_asked so_far (piece ∷ pieces) ≡ all → Fails e all
piece_fails so_far after piece pieces (errors.Faulty cause) all wrong is = sym is ∙ piece_refused so_far piece pieces cause wrong
piece_fails so_far after piece pieces errors.NoMemory all wrong is = tt

-- at the end, and at the start
pub pieces_end : (so_far : Asking) → pieces_asked so_far [] ≡ values_or so_far.cause so_far.values
unfolding parameters_read
pieces_end so_far = refl

pub pieces_start : (version : Version) (text query : List ℕ) → query ≡ without_mark text → pieces_asked (nothing_asked version) (slice_split (λ b. b == 38) query) ≡ query_read version text
unfolding pieces_of
pieces_start version text query is = rw is (sym (query_read_by version text))
