use Rattle.key_map.proofs.MapLaws.{RisesFrom-map_remove, length-map_remove-le}
use Rattle.key_map.proofs.plain_map.PlainMap.remove.Goals as goal

pub invariant_of-self : goal.invariant_of-self
invariant_of-self c =
    rw c.remove_from.ensures.items (RisesFrom-map_remove c.args.key 0 c.self.inside.pairs.items c.self.invariant)

pub returns-clause-size : goal.returns-clause-size
returns-clause-size c =
    rw (c.remove_from.ensures.items, ← c.self.view_is) (length-map_remove-le c.args.key c.self.inside.pairs.items)
