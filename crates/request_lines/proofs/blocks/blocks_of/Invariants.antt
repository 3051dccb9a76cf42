use Rattle.std.proofs.Common.{◌≡◌, ◌++◌}
use Rattle.request_lines.specs.InputParts.{texts_of, texts_left}
use Rattle.line_grammar.specs.Left.{size_left}
use Rattle.request_lines.specs.Said.{texts_in}
use Rattle.request_lines.proofs.blocks.blocks_of.Given as goal

abbrev pub invariant-loop-left : goal.invariant-loop-left
invariant-loop-left l = texts_of l.lines ≡ texts_in l.blocks.items ++ texts_left l.left

abbrev pub decreases-loop-left : goal.decreases-loop-left
decreases-loop-left l = size_left l.left
