use Rattle.std.proofs.Common.{◌≡◌, ℕ, arith, ap, subst, Option, Some, IfSome}
use Rattle.key_map.specs.declared.update.Change.{Change}
use Rattle.key_map.specs.declared.update.Change.TheVariants.{Put}
use Rattle.update_search.specs.declared.search.Aim.{Aim}
use Rattle.update_search.specs.Aims.{IsAimOf, is_put}
use Rattle.tree_update.proofs.CallSteps.{search_stays}
use Rattle.tree_update.proofs.TryMade.{offers_still, searched_inside}
use Rattle.index_runs.proofs.waits.put_slowly.Goals as goal

aim_of : (key : ℕ) (change : Change) (o : Option Aim) (aim : Aim) → o ≡ Some aim → IfSome o (IsAimOf key change) → IsAimOf key change aim
aim_of key change o aim is of = subst (λ (x : Option Aim). IfSome x (IsAimOf key change)) is of

pub carry_slowly-requires-clause-put : goal.carry_slowly-requires-clause-put
carry_slowly-requires-clause-put c =
    ap is_put (aim_of 5 (Put 51) c.in-Ok-Some.field-0 c.in-Ok-Some.aim c.in-Ok-Some.field-0-is c.in-Ok-Some.ensures.of).change_is

pub carry_slowly-requires-clause-free : goal.carry_slowly-requires-clause-free
carry_slowly-requires-clause-free c =
    (offers_still c.args.pass.now c.begin_search-at.new.pass.view c.find_aim.new.pass.view c.begin_search-at.result c.begin_search-at.ensures.opened
    c.in-Ok-Some.ensures.keeps.places.keeps c.args.slots.now c.requires.slots).free

pub carry_slowly-requires-clause-left : goal.carry_slowly-requires-clause-left
carry_slowly-requires-clause-left c =
    let stays = search_stays c.args.pass.now c.begin_search-at.new.pass.view c.find_aim.new.pass.view c.begin_search-at.result c.begin_search-at.ensures.opened
    c.in-Ok-Some.ensures.keeps.places.keeps in
    omega (arith, c.requires.left, stays.goes.left)

pub carry_slowly-requires-clause-reads : goal.carry_slowly-requires-clause-reads
carry_slowly-requires-clause-reads c =
    (searched_inside c.args.pass.now c.begin_search-at.new.pass.view c.find_aim.new.pass.view c.begin_search-at.result c.begin_search-at.ensures.opened
    c.begin_search-at.ensures.top c.in-Ok-Some.ensures.keeps.places).section
