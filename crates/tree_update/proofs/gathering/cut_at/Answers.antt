use Rattle.std.proofs.Common.{refl, ap}
use Rattle.index_words.specs.declared.view.history.Counts.{Counts}
use Rattle.tree_update.proofs.CallSteps.{search_stays}
use Rattle.tree_update.proofs.GatherSteps.{gathers_more, pruned_gathers, stays_gathers}
use Rattle.tree_update.proofs.TryMade.{searched_inside, searched_waits}
use Rattle.tree_update.proofs.gathering.cut_at.Goals as goal

pub cut_found-requires-clause-section : goal.cut_found-requires-clause-section
cut_found-requires-clause-section c =
    (searched_inside c.args.pass.now c.begin_search-at.new.pass.view c.find_aim.new.pass.view c.begin_search-at.result c.begin_search-at.ensures.opened
    c.begin_search-at.ensures.top c.in-Ok-Some.ensures.keeps.places).section

pub give_up-requires : goal.give_up-requires
give_up-requires c = record {
  reads = searched_inside c.args.pass.now c.begin_search-at.new.pass.view c.find_aim.new.pass.view c.begin_search-at.result c.begin_search-at.ensures.opened
      c.begin_search-at.ensures.top c.in-Err.ensures.given_up;
}

pub returns-in-Ok-Some-clause-gathers : goal.returns-in-Ok-Some-clause-gathers
returns-in-Ok-Some-clause-gathers c =
    let p = c.args.pass.now in
    let b = c.begin_search-at.new.pass.view in
    let x = c.find_aim.new.pass.view in
    let w = c.cut_found.new.pass.view in
    let opened = c.begin_search-at.ensures.opened in
    let places = c.in-Ok-Some.ensures.keeps.places in
    let searched = stays_gathers p.view x (search_stays p b x c.begin_search-at.result opened places.keeps) (searched_waits p b x x c.begin_search-at.result opened places refl) in
    gathers_more p.view x w searched (pruned_gathers x w c.cut_found.ensures.keeps)

pub returns-in-Err-clause-gathers : goal.returns-in-Err-clause-gathers
returns-in-Err-clause-gathers c =
    let p = c.args.pass.now in
    let b = c.begin_search-at.new.pass.view in
    let x = c.find_aim.new.pass.view in
    let w = c.give_up.new.pass.view in
    let opened = c.begin_search-at.ensures.opened in
    let places = c.in-Err.ensures.given_up in
    let searched = stays_gathers p.view x (search_stays p b x c.begin_search-at.result opened places.keeps) (searched_waits p b x x c.begin_search-at.result opened places refl) in
    gathers_more p.view x w searched (stays_gathers x w c.give_up.ensures.stays (ap (λ (n : Counts). n.waits) c.give_up.ensures.counts))
