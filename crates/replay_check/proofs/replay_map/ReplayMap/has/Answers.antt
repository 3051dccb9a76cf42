use Rattle.std.proofs.Common.{ap, ◌∙◌}
use Rattle.key_map.specs.Map.{map_has}
use Rattle.replay_check.proofs.TreePairLaws.{has_is}
use Rattle.replay_check.proofs.replay_map.ReplayMap.has.Goals as goal

pub returns : goal.returns
returns c = c.contains_key.ensures ∙ has_is c.self.inside.values.entries c.args.key ∙ ap (map_has c.args.key) c.self.view_is
