use Rattle.std.proofs.Common.{arith, ◌∙◌}
use Rattle.slot_depot.proofs.Moves.{pops, learns}
use Rattle.slot_depot.proofs.Closes.{drained_fits, drained_whole}
use Rattle.slot_depot.proofs.close.drain.Goals as goal

pub pop_as-requires-clause-rule : goal.pop_as-requires-clause-rule
pop_as-requires-clause-rule g c =
    let drained = c.loop.invariant.1 in
    (pops _ _ _ _ (drained.opened ∙ c.requires.all.opened) (omega (arith, drained.shares, c.requires.all.some)), learns _ _ _ _)

pub push_reserved-requires : goal.push_reserved-requires
push_reserved-requires g c =
    let told = c.learn_as.ensures.rule in
    let fits = drained_fits g.T.Homed.home g.T.Tagged.tag _ _ _ c.loop.left.items told.0 _ c.requires.all told.1 c.loop.invariant.1 c.in-Some-pop_as.ensures.rule in
    omega (arith, fits, c.loop.invariant.2, c.loop.left.ok)

pub returns-in-None-pop_as-clause-balance : goal.returns-in-None-pop_as-clause-balance
returns-in-None-pop_as-clause-balance g c = drained_whole g.T.Homed.home g.T.Tagged.tag _ _ c.loop.left.items c.requires.all c.loop.invariant.1 c.in-None-pop_as.ensures.rule.1
