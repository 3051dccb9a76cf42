use Rattle.std.proofs.Common.{◌≡◌, ℕ, ◌<◌, ◌≤◌, false, length, get_or}
use Rattle.std.specs.Char.{is_ascii_digit}
use Rattle.replay_check.proofs.numbers.last_digit_end.Given as goal

abbrev pub invariant-loop-end : goal.invariant-loop-end
invariant-loop-end l = record {
  within : l.end ≤ length l.text;
  others : (i : ℕ) → l.end ≤ i → i < length l.text → is_ascii_digit (get_or l.text i 0) ≡ false;
}

abbrev pub decreases-loop-end : goal.decreases-loop-end
decreases-loop-end l = l.end
