use Rattle.std.proofs.Common.{◌≡◌, ℕ, ◌+◌, length, sym, subst, arith}
use Rattle.replay_check.specs.Looking.{AreReadyOn}
use Rattle.replay_check.proofs.looking.first_wrong.Goals as goal

pub first_unfinished-requires-clause-ready : goal.first_unfinished-requires-clause-ready
first_unfinished-requires-clause-ready c =
    let place = c.loop.invariant.place in
    let all : c.loop.replay.at + 1 ≡ length c.args.basis.now.updates.now + 1 = omega arith in
    subst (AreReadyOn c.args.basis.now (length c.args.basis.now.updates.now + 1)) (sym c.deref.ensures.value)
    (subst (λ (n : ℕ). AreReadyOn c.args.basis.now n c.loop.clients.items) all c.loop.invariant.ready)
