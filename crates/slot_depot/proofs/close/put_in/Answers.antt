use Rattle.std.proofs.Common.{arith}
use Rattle.slot_depot.proofs.Moves.{merges}
use Rattle.slot_depot.proofs.close.put_in.Goals as goal

pub absorb-requires-clause-rule : goal.absorb-requires-clause-rule
absorb-requires-clause-rule g c = merges _ _ _ _ _ _ c.requires.opened (omega (arith, c.seat.invariant.2))
