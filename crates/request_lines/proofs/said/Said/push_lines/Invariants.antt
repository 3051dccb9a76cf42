use Rattle.std.proofs.Common.{◌≡◌}
use Rattle.request_lines.specs.InputParts.{texts_left}
use Rattle.line_grammar.specs.Left.{size_left}
use Rattle.request_lines.proofs.Saying.{IsSaidUpTo}
use Rattle.request_lines.proofs.said.Said.push_lines.Given as goal

abbrev pub invariant-loop-left : goal.invariant-loop-left
invariant-loop-left l = record {
  said : IsSaidUpTo (texts_left l.lines) (texts_left l.left) l.self.commands.items;
  cause : l.self.cause ≡ l.fn.self.cause;
}

abbrev pub decreases-loop-left : goal.decreases-loop-left
decreases-loop-left l = size_left l.left
