use Rattle.std.proofs.Common.{◌≡◌, arith, subst}
use Rattle.core_updates.specs.Held.{HoldsLink}
use Rattle.update_try.proofs.LooksUnder.{link_counts, link_keeps_search, link_leads, link_not_alone, link_reads, link_teaches, may_look_link}
use Rattle.update_try.proofs.looking.look_leads.Goals as goal

pub load_link-requires : goal.load_link-requires
load_link-requires c =
    record {
      may = may_look_link c.search_laws.ensures c.args.pass.now c.facts.ensures c.args.at.node c.requires.locked c.args.at.side
          c.requires.root c.requires.unmarked;
    }

pub returns-then-load_link-child-clause-keeps : goal.returns-then-load_link-child-clause-keeps
returns-then-load_link-child-clause-keeps c =
    link_keeps_search c.search_laws.ensures c.args.pass.now c.facts.ensures c.args.at.node c.requires.locked c.args.at.side c.requires.root c.requires.unmarked
    c.load_link.result c.load_link.new.self.view c.load_link.ensures.view c.load_link.ensures.event

pub returns-then-load_link-child-clause-reading : goal.returns-then-load_link-child-clause-reading
returns-then-load_link-child-clause-reading c =
    link_reads c.search_laws.ensures c.args.pass.now c.facts.ensures c.args.at.node c.requires.locked c.args.at.side c.requires.root c.requires.unmarked
    c.load_link.result c.load_link.new.self.view c.load_link.ensures.view c.load_link.ensures.event c.requires.stays

pub returns-then-load_link-child-clause-learns : goal.returns-then-load_link-child-clause-learns
returns-then-load_link-child-clause-learns c =
    link_teaches c.search_laws.ensures c.args.pass.now c.facts.ensures c.args.at.node c.requires.locked c.args.at.side c.requires.root c.requires.unmarked
    c.load_link.result c.load_link.new.self.view c.load_link.ensures.view c.load_link.ensures.event

pub returns-clause-keeps : goal.returns-clause-keeps
returns-clause-keeps c =
    link_keeps_search c.search_laws.ensures c.args.pass.now c.facts.ensures c.args.at.node c.requires.locked c.args.at.side c.requires.root c.requires.unmarked
    c.load_link.result c.load_link.new.self.view c.load_link.ensures.view c.load_link.ensures.event

pub returns-clause-reading : goal.returns-clause-reading
returns-clause-reading c =
    link_reads c.search_laws.ensures c.args.pass.now c.facts.ensures c.args.at.node c.requires.locked c.args.at.side c.requires.root c.requires.unmarked
    c.load_link.result c.load_link.new.self.view c.load_link.ensures.view c.load_link.ensures.event c.requires.stays

pub returns-clause-learns : goal.returns-clause-learns
returns-clause-learns c =
    link_teaches c.search_laws.ensures c.args.pass.now c.facts.ensures c.args.at.node c.requires.locked c.args.at.side c.requires.root c.requires.unmarked
    c.load_link.result c.load_link.new.self.view c.load_link.ensures.view c.load_link.ensures.event

pub returns-then-load_link-child-clause-moved : goal.returns-then-load_link-child-clause-moved
returns-then-load_link-child-clause-moved c =
    let other : ¬ (c.load_link.result ≡ c.args.child) = λ same. omega (arith, same) in
    link_counts c.search_laws.ensures c.args.pass.now c.facts.ensures c.args.at.node c.requires.locked c.args.at.side c.requires.root c.requires.unmarked
    c.load_link.result c.load_link.new.self.view c.load_link.ensures.view c.load_link.ensures.event c.args.child c.requires.found other c.requires.first

pub returns-then-load_link-child-clause-alone : goal.returns-then-load_link-child-clause-alone
returns-then-load_link-child-clause-alone c =
    let other : ¬ (c.load_link.result ≡ c.args.child) = λ same. omega (arith, same) in
    link_not_alone c.search_laws.ensures c.args.pass.now c.facts.ensures c.args.at.node c.requires.locked c.args.at.side c.requires.root c.requires.unmarked
    c.load_link.result c.load_link.new.self.view c.load_link.ensures.view c.load_link.ensures.event c.args.child c.requires.found other

pub returns-clause-leads : goal.returns-clause-leads
returns-clause-leads c =
    let same : c.load_link.result ≡ c.args.child = omega arith in
    subst (HoldsLink c.load_link.new.self.view c.args.at.node c.args.at.side) same
    (link_leads c.search_laws.ensures c.args.pass.now c.facts.ensures c.args.at.node c.requires.locked c.args.at.side c.requires.root c.requires.unmarked
    c.load_link.result c.load_link.new.self.view c.load_link.ensures.view c.load_link.ensures.event)
