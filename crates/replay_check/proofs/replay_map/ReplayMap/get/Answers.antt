use Rattle.std.proofs.Common.{ap, ◌∙◌}
use Rattle.key_map.specs.Map.{map_get}
use Rattle.replay_check.proofs.TreePairLaws.{get_is}
use Rattle.replay_check.proofs.replay_map.ReplayMap.get.Goals as goal

pub returns : goal.returns
returns c = c.copied.ensures ∙ c.get.ensures.value ∙ get_is c.self.inside.values.entries c.args.key ∙ ap (map_get c.args.key) c.self.view_is
