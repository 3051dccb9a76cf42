use Rattle.std.proofs.Common.{ap, ◌∙◌, subst, refl}
use Rattle.index_words.specs.declared.view.View.{View}
use Rattle.core_grace.specs.Sections.{is_even}
use Rattle.table_rule.specs.Homes.{IsLiveView}
use Rattle.table_steps.specs.Passes.{Pass}
use Rattle.table_steps.proofs.ReadSections.{can_announce, has_announced, may_load}
use Rattle.table_steps.proofs.pass.TablePass.enter_and_announce.Goals as goal

pub load_stamp-seen-requires : goal.load_stamp-seen-requires
load_stamp-seen-requires c =
    let v = c.args.self.now.view in
    let live : IsLiveView v = subst (λ (p : Pass). IsLiveView p.view) c.self.view_is c.facts.ensures in
    record { may = may_load v live c.requires.rest c.enter.new.self.view c.enter.ensures.view c.enter.ensures.inside }

pub announce-requires : goal.announce-requires
announce-requires c =
    let v = c.args.self.now.view in
    let live : IsLiveView v = subst (λ (p : Pass). IsLiveView p.view) c.self.view_is c.facts.ensures in
    let q = c.load_stamp-seen.new.self in
    record { can = can_announce v live c.requires.rest c.enter.new.self.view c.enter.ensures.view q.view c.load_stamp-seen.result c.load_stamp-seen.ensures.seen c.load_stamp-seen.ensures.unread q refl c.number_fact.ensures (c.load_stamp-seen.ensures.inside c.enter.ensures.inside) }

pub returns-clause-announced : goal.returns-clause-announced
returns-clause-announced c =
    let v = c.args.self.now.view in
    let live : IsLiveView v = subst (λ (p : Pass). IsLiveView p.view) c.self.view_is c.facts.ensures in
    has_announced v live c.requires.rest c.enter.new.self.view c.enter.ensures.view c.load_stamp-seen.new.self.view c.load_stamp-seen.result
    c.load_stamp-seen.ensures.seen c.load_stamp-seen.ensures.unread c.announce.new.self.view c.announce.ensures.view

pub returns-clause-inside : goal.returns-clause-inside
returns-clause-inside c =
    let inside = c.load_stamp-seen.ensures.inside c.enter.ensures.inside in
    record {
      odd = ap (λ (u : View). is_even u.section_word) c.announce.ensures.view ∙ inside.odd;
      unlocked = ap (λ (u : View). u.held.nodes) c.announce.ensures.view ∙ inside.unlocked;
    }
