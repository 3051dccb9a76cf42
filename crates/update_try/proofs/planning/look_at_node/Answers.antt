use Rattle.std.proofs.Common.{◌≡◌, ap, ◌∙◌, subst}
use Rattle.index_words.specs.declared.side.Side.TheVariants.{Left}
use Rattle.index_words.specs.declared.view.reading.Place.{Place}
use Rattle.index_words.specs.declared.view.reading.Reading.{Reading}
use Rattle.index_words.specs.declared.view.update.HeldNode.{HeldNode}
use Rattle.core_events.specs.Searches.{searches_at}
use Rattle.core_updates.specs.Held.{HasLoaded}
use Rattle.core_updates.specs.Plans.{KeyLook}
use Rattle.plan_laws.proofs.Looks.{held-unmarked}
use Rattle.update_search.proofs.Failures.{before_raise}
use Rattle.update_search.proofs.Keeps.{search_more}
use Rattle.update_try.proofs.Found.{key_stays, left_stays}
use Rattle.update_try.proofs.LooksUnder.{gap_locked}
use Rattle.update_try.proofs.planning.look_at_node.Goals as goal

pub look_link-requires-clause-locked : goal.look_link-requires-clause-locked
look_link-requires-clause-locked c = gap_locked c.args.pass.now.view c.look_key.new.pass.view c.args.node c.look_key.ensures.keeps c.requires.locked

pub returns-clause-keeps : goal.returns-clause-keeps
returns-clause-keeps c =
    search_more c.search_laws.ensures c.args.pass.now.view c.look_key.new.pass.view c.look_link.new.pass.view c.look_key.ensures.keeps c.look_link.ensures.keeps

pub returns-clause-learns : goal.returns-clause-learns
returns-clause-learns c = record {
  link = λ k side apart n. c.look_key.ensures.learns.link k side (c.look_link.ensures.learns.link k side apart n);
  tag = λ k side n. c.look_key.ensures.learns.tag k side (c.look_link.ensures.learns.tag k side n);
}

pub returns-clause-key : goal.returns-clause-key
returns-clause-key c = λ key known.
    subst (HasLoaded c.look_link.new.pass.view c.args.node (λ (h : HeldNode). h.key)) (c.look_key.ensures.known key known)
    (c.look_link.ensures.keeps.looks.looks (KeyLook c.args.node c.look_key.result) c.look_key.ensures.key)

pub returns-clause-reading : goal.returns-clause-reading
returns-clause-reading c = λ key right of.
    let v = c.args.pass.now.view in
    let by = c.requires.locked in
    let before = before_raise v by.number by.nodes by.trying in
    let held = held-unmarked v by.number by.nodes c.args.node by.trying c.requires.unmarked in
    let same : c.look_key.new.pass.view.reading ≡ v.reading
    = c.look_key.ensures.reading ∙ ap (λ (p : Place). record v.reading { place = p }) (key_stays v c.facts.ensures c.search_laws.ensures before c.args.node key right held of c.look_key.result) in
    c.look_link.ensures.reading (ap (λ (r : Reading). searches_at r r.place c.args.node Left) same ∙ left_stays v c.facts.ensures c.search_laws.ensures before c.args.node key right held of) ∙ same
