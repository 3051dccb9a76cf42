use Rattle.update_try.proofs.LooksUnder.{link_keeps_search, link_leads, link_reads, link_teaches, may_look_link}
use Rattle.update_try.proofs.looking.look_link.Goals as goal

pub load_link-requires : goal.load_link-requires
load_link-requires c =
    record {
      may = may_look_link c.search_laws.ensures c.args.pass.now c.facts.ensures c.args.at.node c.requires.locked c.args.at.side
          c.requires.root c.requires.unmarked;
    }

pub returns-clause-keeps : goal.returns-clause-keeps
returns-clause-keeps c =
    link_keeps_search c.search_laws.ensures c.args.pass.now c.facts.ensures c.args.at.node c.requires.locked c.args.at.side c.requires.root c.requires.unmarked
    c.load_link.result c.load_link.new.self.view c.load_link.ensures.view c.load_link.ensures.event

pub returns-clause-reading : goal.returns-clause-reading
returns-clause-reading c =
    link_reads c.search_laws.ensures c.args.pass.now c.facts.ensures c.args.at.node c.requires.locked c.args.at.side c.requires.root c.requires.unmarked
    c.load_link.result c.load_link.new.self.view c.load_link.ensures.view c.load_link.ensures.event

pub returns-clause-learns : goal.returns-clause-learns
returns-clause-learns c =
    link_teaches c.search_laws.ensures c.args.pass.now c.facts.ensures c.args.at.node c.requires.locked c.args.at.side c.requires.root c.requires.unmarked
    c.load_link.result c.load_link.new.self.view c.load_link.ensures.view c.load_link.ensures.event

pub returns-clause-leads : goal.returns-clause-leads
returns-clause-leads c =
    link_leads c.search_laws.ensures c.args.pass.now c.facts.ensures c.args.at.node c.requires.locked c.args.at.side c.requires.root c.requires.unmarked
    c.load_link.result c.load_link.new.self.view c.load_link.ensures.view c.load_link.ensures.event
