use Rattle.std.proofs.Common.{ap, ◌∙◌}
use Rattle.std.specs.Option.{is_some}
use Rattle.key_map.specs.Map.{map_has, map_remove}
use Rattle.replay_check.specs.TreePairs.{pairs_of}
use Rattle.replay_check.proofs.TreePairLaws.{remove_is, has_is, rises}
use Rattle.replay_check.proofs.replay_map.ReplayMap.remove.Goals as goal

pub invariant_of-self : goal.invariant_of-self
invariant_of-self c = rises c.remove.new.self.entries c.remove.ensures.ordered

pub returns-clause-was : goal.returns-clause-was
returns-clause-was c =
    c.is_some.ensures ∙ ap is_some c.remove.ensures.value ∙ has_is c.self.inside.values.entries c.args.key ∙ ap (map_has c.args.key) c.self.view_is

pub returns-clause-map : goal.returns-clause-map
returns-clause-map c =
    ap pairs_of c.remove.ensures.entries ∙ remove_is c.self.inside.values.entries c.args.key ∙ ap (map_remove c.args.key) c.self.view_is
