use Rattle.std.proofs.Common.{subst}
use Rattle.table_steps.specs.Loads.{HasLoadedMark}
use Rattle.update_search.proofs.Failures.{risen_later}
use Rattle.update_search.proofs.Keeps.{places_more}
use Rattle.update_search.proofs.Odd.{first_places, first_some, first_there, first_trying, mark_counts, mark_keeps, mark_not_alone, mark_unmarked, may_mark, next_some, next_stands, next_there, odd_marked}
use Rattle.update_search.proofs.descent.find_mark.Goals as goal

pub load_mark-requires : goal.load_mark-requires
load_mark-requires c =
    let p = c.args.pass.now in
    let odd = c.requires.odd in
    record { may = may_mark p odd.number odd.nodes odd.trying c.args.node (first_there c.search_laws.ensures p c.facts.ensures c.args.node c.args.turn odd) }

pub returns-then-load_mark-clause-places : goal.returns-then-load_mark-clause-places
returns-then-load_mark-clause-places c =
    first_places c.search_laws.ensures c.args.pass.now c.facts.ensures c.args.node c.args.turn c.requires.odd c.load_mark.new.self c.load_mark.ensures.same c.load_mark.result c.load_mark.ensures.loads

pub returns-then-load_mark-clause-counted : goal.returns-then-load_mark-clause-counted
returns-then-load_mark-clause-counted c =
    let p = c.args.pass.now in
    let laws = c.search_laws.ensures in
    let odd = c.requires.odd in
    let there = first_there laws p c.facts.ensures c.args.node c.args.turn odd in
    mark_counts p odd.number odd.nodes odd.trying c.args.node there laws c.load_mark.result c.load_mark.new.self.view c.load_mark.ensures.loads
    (first_some laws p c.facts.ensures c.args.node c.args.turn odd) c.if-load_mark.true

pub returns-then-load_mark-clause-alone : goal.returns-then-load_mark-clause-alone
returns-then-load_mark-clause-alone c =
    let p = c.args.pass.now in
    let laws = c.search_laws.ensures in
    let odd = c.requires.odd in
    let there = first_there laws p c.facts.ensures c.args.node c.args.turn odd in
    mark_not_alone p odd.number odd.nodes odd.trying c.args.node there laws c.load_mark.result c.load_mark.new.self.view c.load_mark.ensures.loads
    (first_some laws p c.facts.ensures c.args.node c.args.turn odd) c.if-load_mark.true

pub load_mark-requires-2 : goal.load_mark-requires-2
load_mark-requires-2 c =
    let p = c.args.pass.now in
    let q = c.load_mark.new.self in
    let laws = c.search_laws.ensures in
    let odd = c.requires.odd in
    let e = c.load_mark.ensures in
    let trying = first_trying laws p c.facts.ensures c.args.node c.args.turn odd q e.same c.load_mark.result e.loads in
    record { may = may_mark q odd.number odd.nodes trying c.args.turn.node (next_there laws p c.facts.ensures c.args.node c.args.turn odd q e.same c.load_mark.result e.loads) }

pub returns-then-load_mark-2-clause-places : goal.returns-then-load_mark-2-clause-places
returns-then-load_mark-2-clause-places c =
    let p = c.args.pass.now in
    let q = c.load_mark.new.self in
    let laws = c.search_laws.ensures in
    let odd = c.requires.odd in
    let e = c.load_mark.ensures in
    let trying = first_trying laws p c.facts.ensures c.args.node c.args.turn odd q e.same c.load_mark.result e.loads in
    let there = next_there laws p c.facts.ensures c.args.node c.args.turn odd q e.same c.load_mark.result e.loads in
    places_more laws p.view q.view c.load_mark-2.new.self.view (first_places laws p c.facts.ensures c.args.node c.args.turn odd q e.same c.load_mark.result e.loads)
    (mark_keeps q odd.number odd.nodes trying c.args.turn.node there laws c.load_mark-2.result c.load_mark-2.new.self.view c.load_mark-2.ensures.loads)

pub returns-then-load_mark-2-clause-counted : goal.returns-then-load_mark-2-clause-counted
returns-then-load_mark-2-clause-counted c =
    let p = c.args.pass.now in
    let q = c.load_mark.new.self in
    let laws = c.search_laws.ensures in
    let odd = c.requires.odd in
    let e = c.load_mark.ensures in
    let trying = first_trying laws p c.facts.ensures c.args.node c.args.turn odd q e.same c.load_mark.result e.loads in
    let there = next_there laws p c.facts.ensures c.args.node c.args.turn odd q e.same c.load_mark.result e.loads in
    let first = first_places laws p c.facts.ensures c.args.node c.args.turn odd q e.same c.load_mark.result e.loads in
    risen_later p.view.counts.moves q.view.counts.moves c.load_mark-2.new.self.view.counts.moves first.keeps.grown.moves
    (mark_counts q odd.number odd.nodes trying c.args.turn.node there laws c.load_mark-2.result c.load_mark-2.new.self.view c.load_mark-2.ensures.loads
    (next_some laws p c.facts.ensures c.args.node c.args.turn odd q e.same c.load_mark.result e.loads) c.if-load_mark-2.true)

pub returns-then-load_mark-2-clause-alone : goal.returns-then-load_mark-2-clause-alone
returns-then-load_mark-2-clause-alone c =
    let p = c.args.pass.now in
    let q = c.load_mark.new.self in
    let laws = c.search_laws.ensures in
    let odd = c.requires.odd in
    let e = c.load_mark.ensures in
    let trying = first_trying laws p c.facts.ensures c.args.node c.args.turn odd q e.same c.load_mark.result e.loads in
    let there = next_there laws p c.facts.ensures c.args.node c.args.turn odd q e.same c.load_mark.result e.loads in
    mark_not_alone q odd.number odd.nodes trying c.args.turn.node there laws c.load_mark-2.result c.load_mark-2.new.self.view c.load_mark-2.ensures.loads
    (next_some laws p c.facts.ensures c.args.node c.args.turn odd q e.same c.load_mark.result e.loads) c.if-load_mark-2.true

pub unreachable-requires : goal.unreachable-requires
unreachable-requires c =
    let p = c.args.pass.now in
    let q = c.load_mark.new.self in
    let laws = c.search_laws.ensures in
    let odd = c.requires.odd in
    let e = c.load_mark.ensures in
    let trying = first_trying laws p c.facts.ensures c.args.node c.args.turn odd q e.same c.load_mark.result e.loads in
    let there = next_there laws p c.facts.ensures c.args.node c.args.turn odd q e.same c.load_mark.result e.loads in
    let unmarked = mark_unmarked p odd.number odd.nodes odd.trying c.args.node (first_there laws p c.facts.ensures c.args.node c.args.turn odd) laws c.load_mark.result q.view e.loads c.if-load_mark.false odd.locked in
    odd_marked laws q odd.number odd.nodes c.args.node c.args.turn c.load_mark-2.new.self.view trying there
    (next_stands laws p c.facts.ensures c.args.node c.args.turn odd q e.same c.load_mark.result e.loads) unmarked
    (subst (λ b. HasLoadedMark q c.args.turn.node b c.load_mark-2.new.self.view) c.if-load_mark-2.false c.load_mark-2.ensures.loads)
