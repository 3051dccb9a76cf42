use Rattle.update_search.proofs.There.{opened_at_top}
use Rattle.update_search.proofs.opening.begin_search.Goals as goal

pub returns-clause-top : goal.returns-clause-top
returns-clause-top c =
    let q = c.open_section-number.new.self in
    let e = c.open_section-number.ensures in
    opened_at_top c.args.pass.now c.open_section-number.result q.view q.number e.gives e.inside c.facts.ensures c.number_fact.ensures
