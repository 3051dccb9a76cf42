use Rattle.std.proofs.Common.{◌<◌, ◌≤◌, arith, refl, ap, ◌∙◌, sym, subst, inr}
use Rattle.index_words.specs.declared.layout.Layout.{Layout}
use Rattle.core_events.specs.PlainMoves.{tag_loaded}
use Rattle.core_trees.specs.declared.link.Link.{Link}
use Rattle.update_search.proofs.Keeps.{places_more, same_more}
use Rattle.update_search.proofs.TurnNodes.{other_node}
use Rattle.update_search.proofs.Walks.{node_low, trying, walk_between, walk_ended, walk_further, walk_keyed, walk_next, walk_odd, walk_on, walk_trying, walk_went, went_trying}
use Rattle.update_search.proofs.successor.find_next.Goals as goal

pub load_key-here-requires : goal.load_key-here-requires
load_key-here-requires c =
    let now = trying c.search_laws.ensures c.args.pass.now.view c.args.walk c.requires.walk c.left.pass.view c.left.invariant.1 c.left.walk
    (c.left.invariant.2 c.requires.walk) c.facts.ensures in
    record {
      may = record {
        inside = now.working.inside;
        there =
            node_low c.search_laws.ensures c.args.pass.now.view c.args.walk c.requires.walk c.left.pass.view c.left.invariant.1 c.left.walk
            (c.left.invariant.2 c.requires.walk) c.facts.ensures;
      };
    }

pub meet_odd-requires : goal.meet_odd-requires
meet_odd-requires c =
    record {
      odd = walk_odd c.search_laws.ensures c.args.pass.now.view c.args.walk c.requires.walk c.left.pass.view c.left.invariant.1 c.left.walk
          (c.left.invariant.2 c.requires.walk) c.facts.ensures c.load_key-here.result c.load_key-here.new.self.view c.load_key-here.ensures.view c.in-Some.turn
          (sym c.crossed_by.ensures ∙ c.in-Some.is);
    }

pub returns-in-Some-clause-given_up : goal.returns-in-Some-clause-given_up
returns-in-Some-clause-given_up c =
    let keeps = walk_keyed c.search_laws.ensures c.args.pass.now.view c.args.walk c.requires.walk c.left.pass.view c.left.invariant.1 c.left.walk
    (c.left.invariant.2 c.requires.walk) c.facts.ensures c.load_key-here.result c.load_key-here.new.self.view c.load_key-here.ensures.view in
    places_more c.search_laws.ensures c.args.pass.now.view c.load_key-here.new.self.view c.meet_odd.new.pass.view keeps.places c.meet_odd.ensures.given_up

pub load_link-left-requires : goal.load_link-left-requires
load_link-left-requires c =
    let none = sym c.crossed_by.ensures ∙ c.in_default.is in
    let now = walk_trying c.search_laws.ensures c.args.pass.now.view c.args.walk c.requires.walk c.left.pass.view c.left.invariant.1 c.left.walk
    (c.left.invariant.2 c.requires.walk) c.facts.ensures c.load_key-here.result c.load_key-here.new.self.view c.load_key-here.ensures.view in
    let on = walk_on c.search_laws.ensures c.args.pass.now.view c.args.walk c.requires.walk c.left.pass.view c.left.invariant.1 c.left.walk
    (c.left.invariant.2 c.requires.walk) c.facts.ensures c.load_key-here.result c.load_key-here.new.self.view c.load_key-here.ensures.view none in
    record { may = record { inside = now.working.inside; on = inr on.stands } }

pub end_at-gap-requires : goal.end_at-gap-requires
end_at-gap-requires c =
    let none = sym c.crossed_by.ensures ∙ c.in_default.is in
    let now = went_trying c.search_laws.ensures c.args.pass.now.view c.args.walk c.requires.walk c.left.pass.view c.left.invariant.1 c.left.walk
    (c.left.invariant.2 c.requires.walk) c.facts.ensures c.load_key-here.result c.load_key-here.new.self.view c.load_key-here.ensures.view none
    c.load_link-left.result c.load_link-left.new.self.view c.load_link-left.ensures.view in
    let low = node_low c.search_laws.ensures c.args.pass.now.view c.args.walk c.requires.walk c.left.pass.view c.left.invariant.1 c.left.walk
    (c.left.invariant.2 c.requires.walk) c.facts.ensures in
    let same = same_more c.left.pass c.load_key-here.new.self c.load_link-left.new.self c.load_key-here.ensures.same c.load_link-left.ensures.same in
    let there : c.left.walk.node ≤ c.load_link-left.new.self.view.layout.nodes = subst (λ (z : Layout). c.left.walk.node ≤ z.nodes) (sym same.layout) low in
    record {
      may = record {
        inside = now.working.inside;
        there = subst (λ (l : Link). l.node ≤ c.load_link-left.new.self.view.layout.nodes) (sym c.link.ensures) there;
      };
    }

pub returns-then-left-eq0-clause-keeps : goal.returns-then-left-eq0-clause-keeps
returns-then-left-eq0-clause-keeps c =
    let none = sym c.crossed_by.ensures ∙ c.in_default.is in
    let tagged = c.end_at-gap.ensures.view ∙ ap (λ (l : Link). tag_loaded c.load_link-left.new.self.view l.node l.side c.end_at-gap.result.tag)
    c.link.ensures in
    walk_ended c.search_laws.ensures c.args.pass.now.view c.args.walk c.requires.walk c.left.pass.view c.left.invariant.1 c.left.walk
    (c.left.invariant.2 c.requires.walk) c.facts.ensures c.load_key-here.result c.load_key-here.new.self.view c.load_key-here.ensures.view none
    c.load_link-left.result c.load_link-left.new.self.view c.load_link-left.ensures.view c.if-left-eq0.true c.end_at-gap.result.tag
    c.end_at-gap.new.pass.view tagged

pub returns-then-left-eq0-clause-next : goal.returns-then-left-eq0-clause-next
returns-then-left-eq0-clause-next c =
    let none = sym c.crossed_by.ensures ∙ c.in_default.is in
    let tagged = c.end_at-gap.ensures.view ∙ ap (λ (l : Link). tag_loaded c.load_link-left.new.self.view l.node l.side c.end_at-gap.result.tag)
    c.link.ensures in
    let way = c.left.invariant.2 c.requires.walk in
    let now = trying c.search_laws.ensures c.args.pass.now.view c.args.walk c.requires.walk c.left.pass.view c.left.invariant.1 c.left.walk
    (c.left.invariant.2 c.requires.walk) c.facts.ensures in
    let apart = other_node c.search_laws.ensures c.left.pass c.requires.walk.number c.requires.walk.nodes now c.left.walk.turns way.come.turned
    c.left.walk.at.node way.turned c.left.walk.node c.load_key-here.result
    (node_low c.search_laws.ensures c.args.pass.now.view c.args.walk c.requires.walk c.left.pass.view c.left.invariant.1 c.left.walk
    (c.left.invariant.2 c.requires.walk) c.facts.ensures) c.load_key-here.new.self.view
    c.load_key-here.ensures.event (walk_between c.search_laws.ensures c.args.pass.now.view c.args.walk c.requires.walk c.left.pass.view c.left.invariant.1
    c.left.walk (c.left.invariant.2 c.requires.walk) c.facts.ensures c.load_key-here.result c.load_key-here.new.self.view c.load_key-here.ensures.view none) in
    walk_next c.search_laws.ensures c.args.pass.now.view c.args.walk c.requires.walk c.left.pass.view c.left.invariant.1 c.left.walk
    (c.left.invariant.2 c.requires.walk) c.facts.ensures c.load_key-here.result c.load_key-here.new.self.view c.load_key-here.ensures.view none
    c.load_link-left.result c.load_link-left.new.self.view c.load_link-left.ensures.view c.if-left-eq0.true c.end_at-gap.result.tag
    c.end_at-gap.new.pass.view tagged apart
    (record { at = c.left.walk.at; node = c.left.walk.node; gap = c.end_at-gap.result }) refl refl (c.end_at-gap.ensures.at ∙ c.link.ensures) refl

pub left-preserved : goal.left-preserved
left-preserved c =
    let none = sym c.crossed_by.ensures ∙ c.in_default.is in
    let some : 0 < c.load_link-left.result = omega arith in
    let same = same_more c.left.pass c.load_key-here.new.self c.load_link-left.new.self c.load_key-here.ensures.same c.load_link-left.ensures.same in (
      same_more c.args.pass.now c.left.pass c.load_link-left.new.self c.left.invariant.0 same,
      walk_went c.search_laws.ensures c.args.pass.now.view c.args.walk c.requires.walk c.left.pass.view c.left.invariant.1 c.left.walk
          (c.left.invariant.2 c.requires.walk) c.facts.ensures c.load_key-here.result c.load_key-here.new.self.view c.load_key-here.ensures.view none
          c.load_link-left.result c.load_link-left.new.self.view c.load_link-left.ensures.view,
      λ on.
          walk_further c.search_laws.ensures c.args.pass.now.view c.args.walk on c.left.pass.view c.left.invariant.1 c.left.walk (c.left.invariant.2 on)
          c.facts.ensures c.load_key-here.result c.load_key-here.new.self.view c.load_key-here.ensures.view none c.load_link-left.result
          c.load_link-left.new.self.view c.load_link-left.ensures.view some
          (record { at = c.link-in-left.result; node = c.load_link-left.result; turns = c.with.result }) c.link-in-left.ensures refl c.with.ensures,
    )
