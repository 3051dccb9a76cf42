use Rattle.key_map.proofs.MapLaws.{first_from-place}
use Rattle.key_map.proofs.plain_map.first_from.Goals as goal

pub returns : goal.returns
returns c = let e = first_from-place c.args.key c.args.pairs.now in record { first = cc }
