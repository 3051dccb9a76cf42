use Rattle.std.proofs.Common.{ap, sym, ◌∙◌}
use Rattle.std.proofs.lemmas.Result.{err_from_is_err_and}
use Rattle.line_grammar.specs.Left.{parts_left}
use Rattle.line_grammar.specs.Pieces.{asking}
use Rattle.line_grammar.proofs.AskedAll.{pieces_asked}
use Rattle.line_grammar.proofs.PieceLaws.{piece_taken, piece_fails, pieces_end, pieces_start}
use Rattle.line_grammar.proofs.query.query_of.Goals as goal

pub loop-left-init : goal.loop-left-init
loop-left-init c = rw (c.none.ensures, c.new.ensures.items) (pieces_start c.args.version c.args.text.now c.without_mark.result.now c.without_mark.ensures)

pub loop-left-preserved : goal.loop-left-preserved
loop-left-preserved c =
    let a = asking c.loop-left.so_far in
    sym (piece_taken a (asking c.take_piece.new.self) c.first_part.result.0.now (parts_left 38 c.first_part.result.1) c.in_ok-take_piece.ensures)
    ∙ sym (ap (pieces_asked a) (ap (parts_left 38) c.in-Some.is ∙ c.first_part.ensures.cut)) ∙ c.loop-left.invariant

pub returns-in_err-take_piece : goal.returns-in_err-take_piece
returns-in_err-take_piece c =
    let error = err_from_is_err_and c.from_residual.result c.from_residual.ensures.1 in
    let a = asking c.loop-left.so_far in
    rw (error.1, error.2) (piece_fails a a c.first_part.result.0.now (parts_left 38 c.first_part.result.1) _ _ c.in_err-take_piece.ensures
    (sym (ap (pieces_asked a) (ap (parts_left 38) c.in-Some.is ∙ c.first_part.ensures.cut)) ∙ c.loop-left.invariant))

pub returns : goal.returns
returns c =
    let a = asking c.loop-left.so_far in
    rw (sym c.loop-left.invariant ∙ ap (pieces_asked a) (ap (parts_left 38) c.in_default.is) ∙ pieces_end a) c.finish.ensures
