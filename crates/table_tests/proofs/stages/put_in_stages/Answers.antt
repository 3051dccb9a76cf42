use Rattle.std.proofs.Common.{◌≡◌, ap, arith, subst, Option, Some, IfSome}
use Rattle.key_map.specs.declared.update.Change.TheVariants.{Put}
use Rattle.update_search.specs.declared.search.Aim.{Aim}
use Rattle.update_search.specs.Aims.{IsAimOf, is_put}
use Rattle.tree_update.proofs.CallSteps.{search_stays}
use Rattle.tree_update.proofs.TryMade.{offers_still, searched_inside}
use Rattle.table_tests.proofs.stages.put_in_stages.Goals as goal

pub carry_in_stages-requires-clause-put : goal.carry_in_stages-requires-clause-put
carry_in_stages-requires-clause-put g c =
    let of : IsAimOf 5 (Put 51) c.in-Ok-Some.aim = subst (λ (x : Option Aim). IfSome x (IsAimOf 5 (Put 51))) c.in-Ok-Some.field-0-is c.in-Ok-Some.ensures.of in
    ap is_put of.change_is

pub carry_in_stages-requires-clause-free : goal.carry_in_stages-requires-clause-free
carry_in_stages-requires-clause-free g c =
    (offers_still c.args.pass.now c.begin_search-at.new.pass.view c.find_aim.new.pass.view c.begin_search-at.result c.begin_search-at.ensures.opened
    c.in-Ok-Some.ensures.keeps.places.keeps c.args.slots.now c.requires.slots).free

pub carry_in_stages-requires-clause-left : goal.carry_in_stages-requires-clause-left
carry_in_stages-requires-clause-left g c =
    let stays = search_stays c.args.pass.now c.begin_search-at.new.pass.view c.find_aim.new.pass.view c.begin_search-at.result c.begin_search-at.ensures.opened
    c.in-Ok-Some.ensures.keeps.places.keeps in
    omega (arith, c.requires.left, stays.goes.left)

pub carry_in_stages-requires-clause-reads : goal.carry_in_stages-requires-clause-reads
carry_in_stages-requires-clause-reads g c =
    (searched_inside c.args.pass.now c.begin_search-at.new.pass.view c.find_aim.new.pass.view c.begin_search-at.result c.begin_search-at.ensures.opened
    c.begin_search-at.ensures.top c.in-Ok-Some.ensures.keeps.places).section
