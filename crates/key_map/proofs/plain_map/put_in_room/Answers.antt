use Rattle.key_map.proofs.MapLaws.{map_put-present, map_put-absent}
use Rattle.key_map.proofs.plain_map.put_in_room.Goals as goal

pub returns-in-Ok-clause-items : goal.returns-in-Ok-clause-items
returns-in-Ok-clause-items c =
    let p = c.args.pair in
    let here = rw c.deref.ensures.value at c.in-Ok.ensures.found.1 in
    let place = rw c.deref.ensures.value at c.in-Ok.ensures.place in
    let e = map_put-present p.key p.val 0 c.args.pairs.now.items c.requires.map here in
    cc

pub returns-in-Err-clause-items : goal.returns-in-Err-clause-items
returns-in-Err-clause-items c =
    let p = c.args.pair in
    let here = rw c.deref.ensures.value at c.in-Err.ensures.found.1 in
    let place = rw c.deref.ensures.value at c.in-Err.ensures.place in
    let e = map_put-absent p.key p.val 0 c.args.pairs.now.items c.requires.map here in
    cc
