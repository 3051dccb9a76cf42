use Rattle.std.proofs.Common.{arith}
use Rattle.key_map.proofs.MapLaws.{RisesFrom-map_put, length-map_put-le}
use Rattle.key_map.proofs.plain_map.PlainMap.put.Goals as goal

pub invariant_of-self : goal.invariant_of-self
invariant_of-self c =
    rw c.put_in_room.ensures.items (RisesFrom-map_put c.args.key c.args.val 0 c.self.inside.pairs.items (omega arith) c.self.invariant)

pub returns-clause-size : goal.returns-clause-size
returns-clause-size c =
    rw (c.put_in_room.ensures.items, ← c.self.view_is) (length-map_put-le c.args.key c.args.val c.self.inside.pairs.items)
