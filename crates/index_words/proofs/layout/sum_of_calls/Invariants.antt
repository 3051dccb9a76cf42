use Rattle.std.proofs.Common.{◌≡◌, ◌*◌, ◌^◌, ◌≤◌, take}
use Rattle.index_words.specs.Sizes.{all_calls}
use Rattle.index_words.proofs.layout.sum_of_calls.Given as goal

abbrev pub invariant-loop-size : goal.invariant-loop-size
invariant-loop-size l = record { sum_is : l.sum ≡ all_calls (take l.size-index l.sizes); small : l.sum ≤ l.size-index * 2 ^ 32 }
