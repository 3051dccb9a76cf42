use Rattle.std.proofs.Common.{◌≡◌, drop}
use Rattle.core_events.specs.LoadMoves.{longest, longest_from}
use Rattle.machine_steps.proofs.stamp_seats.longest_history.Given as goal

abbrev pub invariant-loop-view : goal.invariant-loop-view
invariant-loop-view l = longest l.views ≡ longest_from l.best (drop l.view-index l.views)
