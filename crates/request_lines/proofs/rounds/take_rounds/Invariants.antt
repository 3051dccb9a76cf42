use Rattle.std.proofs.Common.{◌≡◌, ◌-◌, ◌≤◌, length, take, drop}
use Rattle.request_lines.specs.Counting.{IsWithin}
use Rattle.request_lines.specs.Reading.{progress}
use Rattle.request_lines.specs.Said.{AreRead, texts_in}
use Rattle.request_lines.proofs.TakingLaws.{AreTakenUpTo}
use Rattle.request_lines.proofs.rounds.take_rounds.Given as goal

abbrev pub invariant-loop-done : goal.invariant-loop-done
invariant-loop-done g l = record {
  room : length l.said.items ≡ l.most;
  spare_room : length l.spare.items ≡ l.most;
  read : AreRead (take l.most (drop l.done l.blocks)) l.said.items;
  inside : l.done ≤ length l.blocks;
  taken : AreTakenUpTo (progress l.fn.reader) 0 (texts_in l.blocks) (texts_in (drop l.done l.blocks)) l.number (progress l.reader);
  within : IsWithin l.reader.counts;
}

abbrev pub decreases-loop-done : goal.decreases-loop-done
decreases-loop-done g l = length l.blocks - l.done
