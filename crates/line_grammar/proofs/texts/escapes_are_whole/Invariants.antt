use Rattle.std.proofs.Common.{◌≡◌, length}
use Rattle.line_grammar.specs.Texts.{escapes_are_whole}
use Rattle.line_grammar.proofs.texts.escapes_are_whole.Given as goal

abbrev pub invariant-loop-left : goal.invariant-loop-left
invariant-loop-left l = escapes_are_whole l.left ≡ escapes_are_whole l.text

abbrev pub decreases-loop-left : goal.decreases-loop-left
decreases-loop-left l = length l.left
