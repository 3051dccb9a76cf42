use Rattle.request_lines.specs.Counting.{IsWithin}
use Rattle.request_lines.specs.InputParts.{texts_of, texts_left}
use Rattle.request_lines.specs.Reading.{progress}
use Rattle.line_grammar.specs.Left.{size_left}
use Rattle.request_lines.proofs.TakingLaws.{AreTakenUpTo}
use Rattle.request_lines.proofs.reader.Reader.take_in_turn.Given as goal

abbrev pub invariant-loop-left : goal.invariant-loop-left
invariant-loop-left l = record {
  taken : AreTakenUpTo (progress l.fn.self) 0 (texts_of l.bytes) (texts_left l.left) l.number (progress l.self);
  within : IsWithin l.self.counts;
}

abbrev pub decreases-loop-left : goal.decreases-loop-left
decreases-loop-left l = size_left l.left
