use Rattle.std.proofs.Common.{◌≡◌, ◌<◌, ◌≤◌, arith, refl, ap, ◌∙◌, sym, subst, inr}
use Rattle.index_words.specs.declared.layout.Layout.{Layout}
use Rattle.index_words.specs.declared.side.Side.{Side}
use Rattle.core_trees.specs.declared.link.Link.{Link}
use Rattle.core_updates.specs.Plans.{link_of}
use Rattle.update_search.specs.declared.turns.Turns.{Turns}
use Rattle.update_search.specs.Turns.{side_to, turned_at}
use Rattle.update_search.proofs.Failures.{counted_later}
use Rattle.update_search.proofs.Keeps.{places_more, same_more}
use Rattle.update_search.proofs.Levels.{GoesOn}
use Rattle.update_search.proofs.TurnKeys.{IsBetween}
use Rattle.update_search.proofs.TurnNodes.{Begins, turned_is}
use Rattle.update_search.proofs.Ways.{ends_missing, way_apart, way_between, way_ended, way_found, way_keyed, way_odd, way_on}
use Rattle.update_search.proofs.descent.find_end.Goals as goal

pub returns-then-node-eq0-clause-keeps : goal.returns-then-node-eq0-clause-keeps
returns-then-node-eq0-clause-keeps c =
    way_ended c.search_laws.ensures c.args.pass.now.view c.requires.top c.args.key c.down.pass.view c.down.invariant.1 c.down.at c.down.turns
    c.down.invariant.2 c.down.invariant.3 c.load_link-node.result c.load_link-node.new.self.view c.load_link-node.ensures.view c.if-node-eq0.true
    c.end_at.result.tag c.end_at.new.pass.view c.end_at.ensures.view

pub returns-then-node-eq0-clause-end : goal.returns-then-node-eq0-clause-end
returns-then-node-eq0-clause-end c =
    ends_missing c.search_laws.ensures c.args.pass.now.view c.requires.top c.args.key c.down.pass.view c.down.invariant.1 c.down.at c.down.turns
    c.down.invariant.2 c.down.invariant.3 c.load_link-node.result c.load_link-node.new.self.view c.load_link-node.ensures.view c.if-node-eq0.true
    c.end_at.result.tag c.end_at.new.pass.view c.end_at.ensures.view
    c.end_at.result c.end_at.ensures.at refl

pub meet_odd-requires : goal.meet_odd-requires
meet_odd-requires c =
    let some : 0 < c.load_link-node.result = omega arith in
    record {
      odd =
          way_odd c.search_laws.ensures c.args.pass.now.view c.requires.top c.args.key c.down.pass.view c.down.invariant.1 c.down.at c.down.turns
          c.down.invariant.2 c.down.invariant.3 c.load_link-node.result c.load_link-node.new.self.view c.load_link-node.ensures.view some
          c.load_key-here.result c.load_key-here.new.self.view c.load_key-here.ensures.view
          c.in-Some.turn (sym c.crossed_by.ensures ∙ c.in-Some.is);
    }

pub returns-in-Some-clause-given_up : goal.returns-in-Some-clause-given_up
returns-in-Some-clause-given_up c =
    let some : 0 < c.load_link-node.result = omega arith in
    let keeps = way_keyed c.search_laws.ensures c.args.pass.now.view c.requires.top c.args.key c.down.pass.view c.down.invariant.1 c.down.at c.down.turns
    c.down.invariant.2 c.down.invariant.3 c.load_link-node.result c.load_link-node.new.self.view c.load_link-node.ensures.view some c.load_key-here.result
    c.load_key-here.new.self.view c.load_key-here.ensures.view in
    places_more c.search_laws.ensures c.args.pass.now.view c.load_key-here.new.self.view c.meet_odd.new.pass.view keeps.places c.meet_odd.ensures.given_up

pub returns-in-Some-clause-counted : goal.returns-in-Some-clause-counted
returns-in-Some-clause-counted c =
    let some : 0 < c.load_link-node.result = omega arith in
    let keeps = way_keyed c.search_laws.ensures c.args.pass.now.view c.requires.top c.args.key c.down.pass.view c.down.invariant.1 c.down.at c.down.turns
    c.down.invariant.2 c.down.invariant.3 c.load_link-node.result c.load_link-node.new.self.view c.load_link-node.ensures.view some c.load_key-here.result
    c.load_key-here.new.self.view c.load_key-here.ensures.view in
    counted_later c.meet_odd.result c.args.pass.now.view c.load_key-here.new.self.view c.meet_odd.new.pass.view
    keeps.places.keeps.grown c.meet_odd.ensures.counted

pub returns-then-here-key-clause-keeps : goal.returns-then-here-key-clause-keeps
returns-then-here-key-clause-keeps c =
    let some : 0 < c.load_link-node.result = omega arith in
    way_keyed c.search_laws.ensures c.args.pass.now.view c.requires.top c.args.key c.down.pass.view c.down.invariant.1 c.down.at c.down.turns
    c.down.invariant.2 c.down.invariant.3 c.load_link-node.result c.load_link-node.new.self.view c.load_link-node.ensures.view some c.load_key-here.result
    c.load_key-here.new.self.view c.load_key-here.ensures.view

pub returns-then-here-key-clause-end : goal.returns-then-here-key-clause-end
returns-then-here-key-clause-end c =
    let some : 0 < c.load_link-node.result = omega arith in
    let same : c.load_key-here.result ≡ c.args.key = omega arith in
    let none = sym c.crossed_by.ensures ∙ c.in_default.is in
    let there : c.load_link-node.result ≤ c.load_link-node.new.self.view.layout.nodes
    = subst (λ (z : Layout). c.load_link-node.result ≤ z.nodes) (sym c.load_link-node.ensures.same.layout) c.load_link-node.ensures.there in
    let apart = way_apart c.search_laws.ensures c.args.pass.now.view c.requires.top c.args.key c.down.pass.view c.down.invariant.1 c.down.at c.down.turns
    c.down.invariant.2 c.down.invariant.3 c.load_link-node.result c.load_link-node.new.self.view c.load_link-node.ensures.view some c.load_link-node.new.self
    refl there c.load_key-here.result c.load_key-here.new.self.view c.load_key-here.ensures.event c.down.invariant.4 none in
    way_found c.search_laws.ensures c.args.pass.now.view c.requires.top c.args.key c.down.pass.view c.down.invariant.1 c.down.at c.down.turns
    c.down.invariant.2 c.down.invariant.3 c.load_link-node.result c.load_link-node.new.self.view c.load_link-node.ensures.view some c.load_key-here.result
    c.load_key-here.new.self.view c.load_key-here.ensures.view same apart

pub down-preserved : goal.down-preserved
down-preserved c =
    let some : 0 < c.load_link-node.result = omega arith in
    let apart : ¬ (c.load_key-here.result ≡ c.args.key) = λ same. omega (arith, same) in
    let none = sym c.crossed_by.ensures ∙ c.in_default.is in
    let z = c.load_key-here.new.self.view in
    let side = side_to c.args.key c.load_key-here.result in
    let turns_is = c.with-turns.ensures ∙ ap (λ (s : Side). turned_at s (record { node = c.load_link-node.result; key = c.load_key-here.result }) c.down.turns)
    c.side_to-side.ensures in
    let at_is = c.link-at.ensures ∙ ap (link_of c.load_link-node.result) c.side_to-side.ensures in
    let on = way_on c.search_laws.ensures c.args.pass.now.view c.requires.top c.args.key c.down.pass.view c.down.invariant.1 c.down.at c.down.turns
    c.down.invariant.2 c.down.invariant.3 c.load_link-node.result c.load_link-node.new.self.view c.load_link-node.ensures.view some c.load_key-here.result
    c.load_key-here.new.self.view c.load_key-here.ensures.view none in
    let between = way_between c.search_laws.ensures c.args.pass.now.view c.requires.top c.args.key c.down.pass.view c.down.invariant.1 c.down.at c.down.turns
    c.down.invariant.2 c.down.invariant.3 c.load_link-node.result c.load_link-node.new.self.view c.load_link-node.ensures.view some c.load_key-here.result
    c.load_key-here.new.self.view c.load_key-here.ensures.view none apart in (
      same_more c.args.pass.now c.load_link-node.new.self c.load_key-here.new.self
          (same_more c.args.pass.now c.down.pass c.load_link-node.new.self c.down.invariant.0 c.load_link-node.ensures.same) c.load_key-here.ensures.same,
      way_keyed c.search_laws.ensures c.args.pass.now.view c.requires.top c.args.key c.down.pass.view c.down.invariant.1 c.down.at c.down.turns
          c.down.invariant.2 c.down.invariant.3 c.load_link-node.result c.load_link-node.new.self.view c.load_link-node.ensures.view some
          c.load_key-here.result c.load_key-here.new.self.view c.load_key-here.ensures.view,
      subst (λ (ts : Turns). GoesOn z c.link-at.result ts) (sym turns_is)
          (subst (λ (l : Link). GoesOn z l (turned_at side (record { node = c.load_link-node.result; key = c.load_key-here.result }) c.down.turns))
          (sym at_is) on),
      subst (λ (ts : Turns). IsBetween ts c.args.key) (sym turns_is) between,
      subst (λ (ts : Turns). Begins ts c.link-at.result.node) (sym turns_is)
          (subst (λ (l : Link). Begins (turned_at side (record { node = c.load_link-node.result; key = c.load_key-here.result }) c.down.turns) l.node)
          (sym at_is)
          (inr (turned_is c.down.turns side c.load_link-node.result c.load_key-here.result))),
    )
