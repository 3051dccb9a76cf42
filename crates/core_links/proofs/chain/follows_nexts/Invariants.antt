use Rattle.std.proofs.Common.{◌↔◌, drop, slice_index}
use Rattle.core_links.specs.Bundle.{IsChain}
use Rattle.core_links.proofs.chain.follows_nexts.Given as goal

abbrev pub invariant-loop-entry : goal.invariant-loop-entry
invariant-loop-entry l = IsChain (slice_index l.nexts) l.head l.entries ↔ IsChain (slice_index l.nexts) l.at (drop l.entry-index l.entries)
