use Rattle.std.proofs.Common.{ap, ◌∙◌}
use Rattle.std.specs.Option.{is_some}
use Rattle.key_map.specs.Map.{map_has, map_put}
use Rattle.replay_check.specs.TreePairs.{pairs_of}
use Rattle.replay_check.proofs.TreePairLaws.{put_is, has_is, rises}
use Rattle.replay_check.proofs.replay_map.ReplayMap.put.Goals as goal

pub invariant_of-self-2 : goal.invariant_of-self-2
invariant_of-self-2 c = rises c.insert.new.self.entries c.in_ok-before.ensures.ordered

pub returns-clause-was : goal.returns-clause-was
returns-clause-was c =
    c.is_some.ensures ∙ ap is_some c.in_ok-before.ensures.old ∙ has_is c.self.inside.values.entries c.args.key ∙ ap (map_has c.args.key) c.self.view_is

pub returns-clause-map : goal.returns-clause-map
returns-clause-map c =
    ap pairs_of c.in_ok-before.ensures.entries ∙ put_is c.self.inside.values.entries c.args.key c.args.val ∙ ap (map_put c.args.key c.args.val) c.self.view_is
