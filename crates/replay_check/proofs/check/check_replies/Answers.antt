use Rattle.std.proofs.Common.{subst, arith}
use Rattle.replay_check.specs.Looking.{IsFirstWrong, against, texts_in}
use Rattle.replay_check.proofs.BasisJournals.{basis_is, few_lines, wrong_few}
use Rattle.replay_check.proofs.check.check_replies.Goals as goal

pub wrong-requires : goal.wrong-requires
wrong-requires c = let few = few_lines c.args.basis.now c.requires in omega arith

pub first_wrong-requires : goal.first_wrong-requires
first_wrong-requires c = basis_is c.args.basis.now c.requires

pub wrong-requires-in-Some : goal.wrong-requires-in-Some
wrong-requires-in-Some c =
    let b = c.args.basis.now in
    let few = wrong_few b c.requires c.in-Some.place (subst (IsFirstWrong (against b) b.updates.now (texts_in b)) c.in-Some.is c.in_ok-place.ensures) in
    omega arith
