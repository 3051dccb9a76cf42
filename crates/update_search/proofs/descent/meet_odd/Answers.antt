use Rattle.std.proofs.Common.{[], ◌∷◌, ◌++◌, sym, subst}
use Rattle.index_words.specs.declared.view.View.{View}
use Rattle.update_search.specs.Outcomes.{HasRisen, KeepsPlaces}
use Rattle.update_search.proofs.Failures.{risen_later}
use Rattle.update_search.proofs.Keeps.{places_more}
use Rattle.update_search.proofs.Odd.{mark_counts, mark_not_alone, may_mark}
use Rattle.update_search.proofs.OddLocks.{locked_keeps, locked_odd, locked_trying, may_unlock, meet_can, meet_places, meet_some, meet_stands, meet_there, meet_trying, meet_unlocked, met_alone, met_keeps, turn_some, turn_there, unlocked_places, holds_last}
use Rattle.update_search.proofs.descent.meet_odd.Goals as goal

pub load_mark-requires : goal.load_mark-requires
load_mark-requires c =
    let odd = c.requires.odd in
    record { may = may_mark c.args.pass.now odd.number odd.nodes odd.trying c.args.turn.node (turn_there c.search_laws.ensures c.args.pass.now c.facts.ensures c.args.node c.args.turn c.requires.odd) }

pub returns-then-load_mark-clause-given_up : goal.returns-then-load_mark-clause-given_up
returns-then-load_mark-clause-given_up c =
    meet_places c.search_laws.ensures c.args.pass.now c.facts.ensures c.args.node c.args.turn c.requires.odd c.load_mark.new.self c.load_mark.ensures.same c.load_mark.result c.load_mark.ensures.loads

pub returns-then-load_mark-clause-counted : goal.returns-then-load_mark-clause-counted
returns-then-load_mark-clause-counted c =
    let odd = c.requires.odd in
    let there = turn_there c.search_laws.ensures c.args.pass.now c.facts.ensures c.args.node c.args.turn c.requires.odd in
    mark_counts c.args.pass.now odd.number odd.nodes odd.trying c.args.turn.node there c.search_laws.ensures c.load_mark.result c.load_mark.new.self.view c.load_mark.ensures.loads
    (turn_some c.search_laws.ensures c.args.pass.now c.facts.ensures c.args.node c.args.turn c.requires.odd) c.if-load_mark.true

pub returns-then-load_mark-clause-alone : goal.returns-then-load_mark-clause-alone
returns-then-load_mark-clause-alone c =
    let odd = c.requires.odd in
    let there = turn_there c.search_laws.ensures c.args.pass.now c.facts.ensures c.args.node c.args.turn c.requires.odd in
    mark_not_alone c.args.pass.now odd.number odd.nodes odd.trying c.args.turn.node there c.search_laws.ensures c.load_mark.result c.load_mark.new.self.view c.load_mark.ensures.loads
    (turn_some c.search_laws.ensures c.args.pass.now c.facts.ensures c.args.node c.args.turn c.requires.odd) c.if-load_mark.true

pub try_lock-requires-clause-unlocked : goal.try_lock-requires-clause-unlocked
try_lock-requires-clause-unlocked c =
    meet_unlocked c.search_laws.ensures c.args.pass.now c.facts.ensures c.args.node c.args.turn c.requires.odd c.load_mark.new.self c.load_mark.ensures.same c.load_mark.result c.load_mark.ensures.loads

pub returns-then-not-try_lock-clause-given_up : goal.returns-then-not-try_lock-clause-given_up
returns-then-not-try_lock-clause-given_up c =
    let odd = c.requires.odd in
    let q = c.load_mark.new.self in
    let trying = meet_trying c.search_laws.ensures c.args.pass.now c.facts.ensures c.args.node c.args.turn c.requires.odd c.load_mark.new.self c.load_mark.ensures.same c.load_mark.result c.load_mark.ensures.loads in
    let some = meet_some c.search_laws.ensures c.args.pass.now c.facts.ensures c.args.node c.args.turn c.requires.odd c.load_mark.new.self c.load_mark.ensures.same c.load_mark.result c.load_mark.ensures.loads in
    let can = meet_can c.search_laws.ensures c.args.pass.now c.facts.ensures c.args.node c.args.turn c.requires.odd c.load_mark.new.self c.load_mark.ensures.same c.load_mark.result c.load_mark.ensures.loads in
    places_more c.search_laws.ensures c.args.pass.now.view q.view c.try_lock.new.self.view
    (meet_places c.search_laws.ensures c.args.pass.now c.facts.ensures c.args.node c.args.turn c.requires.odd c.load_mark.new.self c.load_mark.ensures.same c.load_mark.result c.load_mark.ensures.loads)
    (met_keeps c.search_laws.ensures q odd.number odd.nodes trying c.args.node some can c.try_lock.new.self.view (c.try_lock.ensures.busy c.if-not-try_lock.true))

pub returns-then-not-try_lock-clause-alone : goal.returns-then-not-try_lock-clause-alone
returns-then-not-try_lock-clause-alone c =
    let odd = c.requires.odd in
    let q = c.load_mark.new.self in
    let trying = meet_trying c.search_laws.ensures c.args.pass.now c.facts.ensures c.args.node c.args.turn c.requires.odd c.load_mark.new.self c.load_mark.ensures.same c.load_mark.result c.load_mark.ensures.loads in
    let some = meet_some c.search_laws.ensures c.args.pass.now c.facts.ensures c.args.node c.args.turn c.requires.odd c.load_mark.new.self c.load_mark.ensures.same c.load_mark.result c.load_mark.ensures.loads in
    let can = meet_can c.search_laws.ensures c.args.pass.now c.facts.ensures c.args.node c.args.turn c.requires.odd c.load_mark.new.self c.load_mark.ensures.same c.load_mark.result c.load_mark.ensures.loads in
    met_alone c.search_laws.ensures q odd.number odd.nodes trying c.args.node some can c.try_lock.new.self.view
    (meet_there c.search_laws.ensures c.args.pass.now c.facts.ensures c.args.node c.args.turn c.requires.odd c.load_mark.new.self c.load_mark.ensures.same c.load_mark.result c.load_mark.ensures.loads)
    (c.try_lock.ensures.busy c.if-not-try_lock.true)

pub find_mark-requires : goal.find_mark-requires
find_mark-requires c =
    let odd = c.requires.odd in
    let q = c.load_mark.new.self in
    let trying = meet_trying c.search_laws.ensures c.args.pass.now c.facts.ensures c.args.node c.args.turn c.requires.odd c.load_mark.new.self c.load_mark.ensures.same c.load_mark.result c.load_mark.ensures.loads in
    let some = meet_some c.search_laws.ensures c.args.pass.now c.facts.ensures c.args.node c.args.turn c.requires.odd c.load_mark.new.self c.load_mark.ensures.same c.load_mark.result c.load_mark.ensures.loads in
    let can = meet_can c.search_laws.ensures c.args.pass.now c.facts.ensures c.args.node c.args.turn c.requires.odd c.load_mark.new.self c.load_mark.ensures.same c.load_mark.result c.load_mark.ensures.loads in
    record {
      odd =
          locked_odd c.search_laws.ensures q odd.number odd.nodes trying c.args.node some can c.try_lock.new.self.view (c.try_lock.ensures.locked c.if-not-try_lock.false) c.args.turn
          (meet_stands c.search_laws.ensures c.args.pass.now c.facts.ensures c.args.node c.args.turn c.requires.odd c.load_mark.new.self c.load_mark.ensures.same c.load_mark.result c.load_mark.ensures.loads);
    }

pub unlock-requires : goal.unlock-requires
unlock-requires c =
    let odd = c.requires.odd in
    let laws = c.search_laws.ensures in
    let q = c.load_mark.new.self in
    let trying = meet_trying c.search_laws.ensures c.args.pass.now c.facts.ensures c.args.node c.args.turn c.requires.odd c.load_mark.new.self c.load_mark.ensures.same c.load_mark.result c.load_mark.ensures.loads in
    let some = meet_some c.search_laws.ensures c.args.pass.now c.facts.ensures c.args.node c.args.turn c.requires.odd c.load_mark.new.self c.load_mark.ensures.same c.load_mark.result c.load_mark.ensures.loads in
    let can = meet_can c.search_laws.ensures c.args.pass.now c.facts.ensures c.args.node c.args.turn c.requires.odd c.load_mark.new.self c.load_mark.ensures.same c.load_mark.result c.load_mark.ensures.loads in
    let locks = c.try_lock.ensures.locked c.if-not-try_lock.false in
    let x = c.find_mark.new.pass.view in
    let on = c.find_mark.ensures.places.trying odd.number (odd.nodes ++ c.args.node ∷ []) (locked_trying laws q odd.number odd.nodes trying c.args.node some can c.try_lock.new.self.view locks odd.number odd.nodes trying) in
    record { may = may_unlock x odd.number c.args.node (odd.nodes ++ c.args.node ∷ []) on (holds_last x odd.number c.args.node odd.nodes on) }

pub returns-clause-given_up : goal.returns-clause-given_up
returns-clause-given_up c =
    let odd = c.requires.odd in
    let laws = c.search_laws.ensures in
    let q = c.load_mark.new.self in
    let trying = meet_trying c.search_laws.ensures c.args.pass.now c.facts.ensures c.args.node c.args.turn c.requires.odd c.load_mark.new.self c.load_mark.ensures.same c.load_mark.result c.load_mark.ensures.loads in
    let some = meet_some c.search_laws.ensures c.args.pass.now c.facts.ensures c.args.node c.args.turn c.requires.odd c.load_mark.new.self c.load_mark.ensures.same c.load_mark.result c.load_mark.ensures.loads in
    let can = meet_can c.search_laws.ensures c.args.pass.now c.facts.ensures c.args.node c.args.turn c.requires.odd c.load_mark.new.self c.load_mark.ensures.same c.load_mark.result c.load_mark.ensures.loads in
    let locks = c.try_lock.ensures.locked c.if-not-try_lock.false in
    let x = c.find_mark.new.pass.view in
    let behind = unlocked_places laws q odd.number odd.nodes trying c.args.node some can c.try_lock.new.self.view locks x c.find_mark.ensures.places in
    places_more laws c.args.pass.now.view q.view c.unlock.new.self.view
    (meet_places c.search_laws.ensures c.args.pass.now c.facts.ensures c.args.node c.args.turn c.requires.odd c.load_mark.new.self c.load_mark.ensures.same c.load_mark.result c.load_mark.ensures.loads)
    (subst (KeepsPlaces q.view) (sym c.unlock.ensures.view) behind)

pub returns-clause-counted : goal.returns-clause-counted
returns-clause-counted c =
    let odd = c.requires.odd in
    let laws = c.search_laws.ensures in
    let q = c.load_mark.new.self in
    let trying = meet_trying c.search_laws.ensures c.args.pass.now c.facts.ensures c.args.node c.args.turn c.requires.odd c.load_mark.new.self c.load_mark.ensures.same c.load_mark.result c.load_mark.ensures.loads in
    let some = meet_some c.search_laws.ensures c.args.pass.now c.facts.ensures c.args.node c.args.turn c.requires.odd c.load_mark.new.self c.load_mark.ensures.same c.load_mark.result c.load_mark.ensures.loads in
    let can = meet_can c.search_laws.ensures c.args.pass.now c.facts.ensures c.args.node c.args.turn c.requires.odd c.load_mark.new.self c.load_mark.ensures.same c.load_mark.result c.load_mark.ensures.loads in
    let locks = c.try_lock.ensures.locked c.if-not-try_lock.false in
    let u = c.args.pass.now.view in
    let w = c.try_lock.new.self.view in
    let x = c.find_mark.new.pass.view in
    let places = meet_places c.search_laws.ensures c.args.pass.now c.facts.ensures c.args.node c.args.turn c.requires.odd c.load_mark.new.self c.load_mark.ensures.same c.load_mark.result c.load_mark.ensures.loads in
    let kept = locked_keeps laws q odd.number odd.nodes trying c.args.node some can w locks in
    let risen : HasRisen u.counts.moves x.counts.moves
    = risen_later u.counts.moves q.view.counts.moves x.counts.moves places.keeps.grown.moves (risen_later q.view.counts.moves w.counts.moves x.counts.moves kept.grown.moves c.find_mark.ensures.counted) in
    subst (λ (y : View). HasRisen u.counts.moves y.counts.moves) (sym c.unlock.ensures.view) risen
