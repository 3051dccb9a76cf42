use Rattle.std.proofs.Common.{arith}
use Rattle.tree_update.proofs.CallSteps.{search_stays}
use Rattle.tree_update.proofs.TryMade.{offers_still, searched_inside}
use Rattle.table_tests.proofs.moved.is_moved_by.Goals as goal

pub carry_out-requires-clause-free : goal.carry_out-requires-clause-free
carry_out-requires-clause-free g c =
    (offers_still c.args.pass.now c.begin_search-at.new.pass.view c.find_aim.new.pass.view c.begin_search-at.result c.begin_search-at.ensures.opened
    c.in-Ok-Some.ensures.keeps.places.keeps c.args.slots.now c.requires.slots).free

pub carry_out-requires-clause-left : goal.carry_out-requires-clause-left
carry_out-requires-clause-left g c =
    let stays = search_stays c.args.pass.now c.begin_search-at.new.pass.view c.find_aim.new.pass.view c.begin_search-at.result c.begin_search-at.ensures.opened
    c.in-Ok-Some.ensures.keeps.places.keeps in
    omega (arith, c.requires.left, stays.goes.left)

pub carry_out-requires-clause-reads : goal.carry_out-requires-clause-reads
carry_out-requires-clause-reads g c =
    (searched_inside c.args.pass.now c.begin_search-at.new.pass.view c.find_aim.new.pass.view c.begin_search-at.result c.begin_search-at.ensures.opened
    c.begin_search-at.ensures.top c.in-Ok-Some.ensures.keeps.places).section
