use Rattle.key_map.specs.History.{after}
use Rattle.client_threads.specs.KeySets.{HasKeysOf}
use Rattle.client_threads.proofs.counting.keys_after.Given as goal

abbrev pub invariant-loop-update : goal.invariant-loop-update
invariant-loop-update l = HasKeysOf (after l.updates l.update-index) l.keys
