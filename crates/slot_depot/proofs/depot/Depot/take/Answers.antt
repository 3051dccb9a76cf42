use Rattle.std.proofs.Common.{arith}
use Rattle.slot_depot.proofs.Moves.{pops, learns}
use Rattle.slot_depot.proofs.depot.Depot.take.Goals as goal

pub pop_as-taken-requires-clause-rule : goal.pop_as-taken-requires-clause-rule
pop_as-taken-requires-clause-rule g c =
    let invariant = c.seat.invariant in
    (pops _ _ _ _ invariant.1 (omega (arith, invariant.2)), learns _ _ _ _)
