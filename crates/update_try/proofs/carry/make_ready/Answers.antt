use Rattle.update_try.proofs.Outs.{walked_same}
use Rattle.update_try.proofs.carry.make_ready.Goals as goal

pub prepare_all-requires-clause-walked : goal.prepare_all-requires-clause-walked
prepare_all-requires-clause-walked c =
    walked_same c.find_heads-heads.new.pass.view c.fill_all.new.pass.view c.args.plan.now c.fill_all.ensures.held c.find_heads-heads.ensures.walked
