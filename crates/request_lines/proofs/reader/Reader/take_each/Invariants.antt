use Rattle.std.proofs.Common.{◌≡◌, ℕ, ◌≤◌, length, drop, get_or}
use Rattle.request_lines.specs.declared.said.Said.{Said}
use Rattle.request_lines.specs.Counting.{IsWithin}
use Rattle.request_lines.specs.Reading.{progress}
use Rattle.request_lines.specs.Said.{texts_in}
use Rattle.request_lines.proofs.TakingLaws.{AreTakenUpTo}
use Rattle.request_lines.proofs.reader.Reader.take_each.Given as goal

abbrev pub invariant-loop-place : goal.invariant-loop-place
invariant-loop-place l = record {
  taken : AreTakenUpTo (progress l.fn.self) l.before (texts_in l.blocks) (texts_in (drop l.place l.blocks)) l.number (progress l.self);
  within : IsWithin l.self.counts;
  long : length l.said.items ≡ length l.fn.said.items;
  left : (i : ℕ) (d : Said) → l.place ≤ i → get_or l.said.items i d ≡ get_or l.fn.said.items i d;
}
