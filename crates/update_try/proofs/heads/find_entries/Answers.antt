use Rattle.update_try.proofs.FoundHeads.{heads_more, heads_still}
use Rattle.update_try.proofs.heads.find_entries.Goals as goal

pub returns-clause-nexts : goal.returns-clause-nexts
returns-clause-nexts c place item is = c.walk_along.ensures.nexts place item (c.find_head-head.ensures.nexts place item is)

pub returns-clause-heads : goal.returns-clause-heads
returns-clause-heads c =
    let v = c.find_head-head.new.pass.view in
    let w = c.walk_along.new.pass.view in
    heads_more c.args.pass.now.view v w c.find_head-head.ensures.heads (heads_still v w c.walk_along.ensures.held)
