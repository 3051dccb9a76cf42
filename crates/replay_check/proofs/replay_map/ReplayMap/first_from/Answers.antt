use Rattle.std.proofs.Common.{sym, ap, ◌∙◌}
use Rattle.key_map.specs.Map.{first_from}
use Rattle.replay_check.proofs.TreePairLaws.{first_some, first_none}
use Rattle.replay_check.proofs.replay_map.ReplayMap.first_from.Goals as goal

pub returns-in-Some : goal.returns-in-Some
returns-in-Some c =
    sym (ap (first_from c.args.key) (sym c.self.view_is)
    ∙ first_some c.self.inside.values.entries c.args.key _ _ (sym (c.range.ensures.between tt) ∙ c.in-Some.ensures.steps))

pub returns-in-None : goal.returns-in-None
returns-in-None c =
    sym (ap (first_from c.args.key) (sym c.self.view_is)
    ∙ first_none c.self.inside.values.entries c.args.key (sym (c.range.ensures.between tt) ∙ c.in-None.ensures.steps.0))
