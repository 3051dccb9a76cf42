use Rattle.std.proofs.Common.{◌≡◌, arith, subst, sym}
use Rattle.core_updates.specs.Held.{RemembersGap}
use Rattle.core_updates.specs.Plans.{LinkLook}
use Rattle.update_search.proofs.Failures.{risen_later}
use Rattle.update_search.proofs.Keeps.{search_more}
use Rattle.update_try.proofs.LooksUnder.{gap_locked, tag_counts, tag_gap, tag_keeps_search, tag_not_alone, there}
use Rattle.update_try.proofs.looking.look_at_gap.Goals as goal

pub load_tag-requires : goal.load_tag-requires
load_tag-requires c =
    let locked = gap_locked c.args.pass.now.view c.look_leads.new.pass.view c.args.gap.at.node c.look_leads.ensures.keeps c.requires.locked in
    record {
      may = record {
        inside = locked.trying.working.inside;
        there = there c.search_laws.ensures c.look_leads.new.pass c.facts.ensures c.args.gap.at.node locked;
      };
    }

pub returns-then-load_tag-tag-clause-keeps : goal.returns-then-load_tag-tag-clause-keeps
returns-then-load_tag-tag-clause-keeps c =
    let locked = gap_locked c.args.pass.now.view c.look_leads.new.pass.view c.args.gap.at.node c.look_leads.ensures.keeps c.requires.locked in
    search_more c.search_laws.ensures c.args.pass.now.view c.look_leads.new.pass.view c.load_tag.new.self.view c.look_leads.ensures.keeps
    (tag_keeps_search c.search_laws.ensures c.look_leads.new.pass c.facts.ensures c.args.gap.at.node locked c.args.gap.at.side
    c.load_tag.result c.load_tag.new.self.view c.load_tag.ensures.view c.load_tag.ensures.event
    (λ k. c.requires.first_tag (c.look_leads.ensures.learns.tag c.args.gap.at.node c.args.gap.at.side k)))

pub returns-clause-keeps : goal.returns-clause-keeps
returns-clause-keeps c =
    let locked = gap_locked c.args.pass.now.view c.look_leads.new.pass.view c.args.gap.at.node c.look_leads.ensures.keeps c.requires.locked in
    search_more c.search_laws.ensures c.args.pass.now.view c.look_leads.new.pass.view c.load_tag.new.self.view c.look_leads.ensures.keeps
    (tag_keeps_search c.search_laws.ensures c.look_leads.new.pass c.facts.ensures c.args.gap.at.node locked c.args.gap.at.side
    c.load_tag.result c.load_tag.new.self.view c.load_tag.ensures.view c.load_tag.ensures.event
    (λ k. c.requires.first_tag (c.look_leads.ensures.learns.tag c.args.gap.at.node c.args.gap.at.side k)))

pub returns-then-load_tag-tag-clause-moved : goal.returns-then-load_tag-tag-clause-moved
returns-then-load_tag-tag-clause-moved c =
    let locked = gap_locked c.args.pass.now.view c.look_leads.new.pass.view c.args.gap.at.node c.look_leads.ensures.keeps c.requires.locked in
    let other : ¬ (c.load_tag.result ≡ c.args.gap.tag) = λ same. omega (arith, same) in
    let found = c.requires.found in
    let now = c.look_leads.ensures.keeps.looks.null c.args.gap.at c.args.gap.tag found.0 found.1 found.2 in
    risen_later c.args.pass.now.view.counts.moves c.look_leads.new.pass.view.counts.moves c.load_tag.new.self.view.counts.moves
    c.look_leads.ensures.keeps.places.keeps.grown.moves
    (tag_counts c.search_laws.ensures c.look_leads.new.pass c.facts.ensures c.args.gap.at.node locked c.args.gap.at.side
    c.load_tag.result c.load_tag.new.self.view c.load_tag.ensures.view c.load_tag.ensures.event c.args.gap.tag found.0 found.1 now other
    (λ k. c.requires.first_tag (c.look_leads.ensures.learns.tag c.args.gap.at.node c.args.gap.at.side k)))

pub returns-then-load_tag-tag-clause-alone : goal.returns-then-load_tag-tag-clause-alone
returns-then-load_tag-tag-clause-alone c =
    let locked = gap_locked c.args.pass.now.view c.look_leads.new.pass.view c.args.gap.at.node c.look_leads.ensures.keeps c.requires.locked in
    let other : ¬ (c.load_tag.result ≡ c.args.gap.tag) = λ same. omega (arith, same) in
    let found = c.requires.found in
    let now = c.look_leads.ensures.keeps.looks.null c.args.gap.at c.args.gap.tag found.0 found.1 found.2 in
    tag_not_alone c.search_laws.ensures c.look_leads.new.pass c.facts.ensures c.args.gap.at.node locked c.args.gap.at.side
    c.load_tag.result c.load_tag.new.self.view c.load_tag.ensures.view c.load_tag.ensures.event c.args.gap.tag found.0 found.1 now other

pub returns-clause-null : goal.returns-clause-null
returns-clause-null c =
    let locked = gap_locked c.args.pass.now.view c.look_leads.new.pass.view c.args.gap.at.node c.look_leads.ensures.keeps c.requires.locked in
    let keeps = tag_keeps_search c.search_laws.ensures c.look_leads.new.pass c.facts.ensures c.args.gap.at.node locked c.args.gap.at.side
    c.load_tag.result c.load_tag.new.self.view c.load_tag.ensures.view c.load_tag.ensures.event
    (λ k. c.requires.first_tag (c.look_leads.ensures.learns.tag c.args.gap.at.node c.args.gap.at.side k)) in
    keeps.looks.looks (LinkLook c.args.gap.at 0) c.in_ok-look_leads.ensures.leads

pub returns-clause-gap : goal.returns-clause-gap
returns-clause-gap c = λ key gap.
    let locked = gap_locked c.args.pass.now.view c.look_leads.new.pass.view c.args.gap.at.node c.look_leads.ensures.keeps c.requires.locked in
    let same : c.load_tag.result ≡ c.args.gap.tag = omega arith in
    let kept = c.look_leads.ensures.keeps.looks.gap c.args.gap.at.node c.args.gap.tag key c.args.gap.at.side gap in
    tag_gap c.search_laws.ensures c.look_leads.new.pass c.facts.ensures c.args.gap.at.node locked c.args.gap.at.side
    c.load_tag.result c.load_tag.new.self.view c.load_tag.ensures.view c.load_tag.ensures.event key c.in_ok-look_leads.ensures.leads
    (subst (λ t. RemembersGap c.look_leads.new.pass.view c.args.gap.at.node c.args.gap.at.side t key) (sym same) kept)
