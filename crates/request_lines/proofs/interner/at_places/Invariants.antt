use Rattle.std.proofs.Common.{◌≡◌, map, take, slice_index}
use Rattle.request_lines.proofs.interner.at_places.Given as goal

abbrev pub invariant-loop-number : goal.invariant-loop-number
invariant-loop-number l = l.found.items ≡ map (slice_index l.places) (take l.number-index l.numbers)
