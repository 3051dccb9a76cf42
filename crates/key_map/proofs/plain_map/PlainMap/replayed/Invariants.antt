use Rattle.std.proofs.Common.{◌≡◌, ◌≤◌, length}
use Rattle.key_map.specs.History.{after}
use Rattle.key_map.specs.PlainMap.{roomy}
use Rattle.key_map.proofs.plain_map.PlainMap.replayed.Given as goal

abbrev pub invariant-loop-update : goal.invariant-loop-update
invariant-loop-update l = (l.map ≡ roomy (after l.updates l.update-index) (length l.updates)) × (length l.map.pairs ≤ l.update-index)
