use Rattle.std.proofs.Common.{ap, ◌∙◌, map, arith}
use Rattle.std.proofs.lemmas.List.{take_all}
use Rattle.replay_check.proofs.Starting.{no_updates, starts}
use Rattle.replay_check.proofs.own.no_places.Goals as goal

pub returns : goal.returns
returns c = starts c.args.session.now.clients c.loop-part.tables.items
    (c.loop-part.invariant ∙ ap (map no_updates)
    (take_all c.loop-part.part-index c.as_slice-part-items.result.now (omega (arith, c.loop-part-test.false)) ∙ c.as_slice-part-items.ensures))
