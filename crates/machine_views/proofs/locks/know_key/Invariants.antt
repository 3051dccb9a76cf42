use Rattle.std.proofs.Common.{◌≡◌, ◌++◌, map, take, drop}
use Rattle.index_words.specs.declared.word.Field.TheVariants.{Key}
use Rattle.core_events.specs.LockMoves.{pair_known}
use Rattle.machine_views.proofs.locks.know_key.Given as goal

abbrev pub invariant-loop-held : goal.invariant-loop-held
invariant-loop-held l = l.nodes ≡ map (pair_known Key l.node l.key) (take l.held-index l.initial.nodes) ++ drop l.held-index l.initial.nodes
