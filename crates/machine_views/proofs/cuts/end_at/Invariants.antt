use Rattle.std.proofs.Common.{◌≡◌, ◌++◌, map, take, drop}
use Rattle.core_events.specs.CutMoves.{next_cut}
use Rattle.machine_views.proofs.cuts.end_at.Given as goal

abbrev pub invariant-loop-held : goal.invariant-loop-held
invariant-loop-held l = l.nexts ≡ map (next_cut l.entry) (take l.held-index l.initial.nexts) ++ drop l.held-index l.initial.nexts
