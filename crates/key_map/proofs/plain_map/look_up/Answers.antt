use Rattle.std.proofs.Common.{arith}
use Rattle.std.proofs.lemmas.Grind.{common_steps}
use Rattle.std.proofs.lemmas.Option.{gets}
use Rattle.key_map.specs.Map.{pair}
use Rattle.key_map.proofs.MapLaws.{map_has-at_place, map_has-past}
use Rattle.key_map.proofs.plain_map.look_up.Goals as goal

pub returns-in_default-clause-found : goal.returns-in_default-clause-found
returns-in_default-clause-found c =
    let h = map_has-at_place c.args.key 0 c.args.pairs.now (pair 0 0) c.requires in
    grind (arith, common_steps, gets, h)

pub returns-in_default-2-clause-found : goal.returns-in_default-2-clause-found
returns-in_default-2-clause-found c =
    let h = map_has-past c.args.key c.args.pairs.now in
    grind (arith, common_steps, gets, h)
