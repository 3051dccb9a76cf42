use Rattle.std.proofs.Common.{◌+◌, ◌≤◌, arith}
use Rattle.page_rules.proofs.GroupEnd.{ends_there}
use Rattle.page_rules.proofs.group_end.group_end.Goals as goal

pub returns-clause-first : goal.returns-clause-first
returns-clause-first c =
    let inside = c.loop-inside.inside in
    let outside = c.loop-inside.outside in
    let last : outside ≤ inside + 1 = omega (arith, c.loop-inside-test.false) in
    ends_there c.args.dir.now c.args.group.now inside outside c.len-names.ensures.rising c.loop-inside.invariant last
