use Rattle.std.proofs.Common.{◌≡◌}
use Rattle.line_grammar.specs.Left.{parts_left, size_left}
use Rattle.line_grammar.specs.Pieces.{asking}
use Rattle.line_grammar.proofs.AskedAll.{pieces_asked}
use Rattle.line_grammar.specs.QueryValues.{query_read}
use Rattle.line_grammar.proofs.query.query_of.Given as goal

abbrev pub invariant-loop-left : goal.invariant-loop-left
invariant-loop-left l = pieces_asked (asking l.so_far) (parts_left 38 l.left) ≡ query_read l.fn.version l.text

abbrev pub decreases-loop-left : goal.decreases-loop-left
decreases-loop-left l = size_left l.left
