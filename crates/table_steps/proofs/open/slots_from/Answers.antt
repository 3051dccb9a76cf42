use Rattle.std.proofs.Common.{length, arith, ap}
use Rattle.core_kept.proofs.MadeSeats.{from_length}
use Rattle.table_steps.proofs.open.slots_from.Goals as goal

pub add_free-requires-clause-room : goal.add_free-requires-clause-room
add_free-requires-clause-room c =
    omega (arith, ap length c.loop-i.invariant.0, from_length c.args.first c.loop-i.i, c.loop-i.invariant.3, c.requires.room, c.loop-i-test.true)
