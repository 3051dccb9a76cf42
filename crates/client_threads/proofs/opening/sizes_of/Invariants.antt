use Rattle.std.proofs.Common.{◌≡◌, take}
use Rattle.client_threads.specs.Sizes as spec
use Rattle.client_threads.proofs.opening.sizes_of.Given as goal

abbrev pub invariant-loop-part : goal.invariant-loop-part
invariant-loop-part l = l.sizes.items ≡ spec.sizes_of l.slots (take l.part-index l.clients)
