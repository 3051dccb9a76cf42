use Rattle.std.proofs.Common.{◌≤◌}
use Rattle.std.specs.Vec.{vec_capacity}
use Rattle.crossbeam_queue.specs.Passes.{view, IsPassOf}
use Rattle.slot_depot.specs.Depots.{HasDrained}
use Rattle.slot_depot.proofs.close.drain.Given as goal

abbrev pub invariant-loop : goal.invariant-loop
invariant-loop g l =
    IsPassOf l.queue l.whole × HasDrained g.T.Homed.home g.T.Tagged.tag (view l.fn.whole) l.left.items (view l.whole) × ((view l.fn.whole).terms.room ≤ vec_capacity l.left)
