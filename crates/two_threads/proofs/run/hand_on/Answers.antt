use Rattle.std.proofs.Common.{nat_lt, ◌∙◌, arith}
use Rattle.two_threads.proofs.Runs.{handed_back, kept_back, some_free, none_free}
use Rattle.two_threads.proofs.run.hand_on.Goals as goal
use Rattle.two_threads.proofs.run.hand_on.Goals.{then-handed, else-handed}

pub returns-clause-handed : goal.returns-clause-handed
returns-clause-handed c =
    let giver = c.attach-giver in
    let taker = c.attach-taker in
    let free = c.slots-handed.result.free_nodes in
    let handed = nat_lt 0 free in
    elim c.if-handed.branch [
      | then-handed w ↦
          handed_back c.args.index.now c.args.first c.args.second giver.result taker.result w.lend.new.self w.adopt.new.self c.detach.result c.detach-2.result handed
          c.requires.first c.requires.second giver.ensures.same taker.ensures.same w.lend.ensures.lent w.lend.ensures.home w.adopt.ensures.adopted w.adopt.ensures.home
          (c.detach.ensures.same ∙ w.giver-is) (c.detach-2.ensures.same ∙ w.taker-is) (some_free free w.if-handed.true)
      | else-handed w ↦
          kept_back c.args.index.now c.args.first c.args.second giver.result taker.result c.detach.result c.detach-2.result handed
          c.requires.first c.requires.second giver.ensures.same taker.ensures.same
          (c.detach.ensures.same ∙ w.giver-is) (c.detach-2.ensures.same ∙ w.taker-is) (none_free free (omega (arith, w.if-handed.false)))
    ]
