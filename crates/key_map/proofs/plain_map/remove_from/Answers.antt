use Rattle.std.proofs.Common.{sym}
use Rattle.key_map.proofs.MapLaws.{map_remove-present, map_remove-absent}
use Rattle.key_map.proofs.plain_map.remove_from.Goals as goal

pub returns-in-Ok-clause-items : goal.returns-in-Ok-clause-items
returns-in-Ok-clause-items c =
    let here = rw c.deref.ensures.value at c.in-Ok.ensures.found.1 in
    let place = rw c.deref.ensures.value at c.in-Ok.ensures.place in
    let e = map_remove-present c.args.key 0 c.args.pairs.now.items c.requires here in
    cc

pub returns-in-Err-clause-items : goal.returns-in-Err-clause-items
returns-in-Err-clause-items c =
    let here = rw c.deref.ensures.value at c.in-Err.ensures.found.1 in
    sym (map_remove-absent c.args.key c.args.pairs.now.items here)
