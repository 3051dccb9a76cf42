use Rattle.update_search.proofs.Odd.{mark_counts, mark_not_alone, may_mark}
use Rattle.update_try.proofs.LooksUnder.{mark_clear, mark_keeps_search, mark_reads, mark_teaches, there}
use Rattle.update_try.proofs.looking.look_unmarked.Goals as goal

pub load_mark-requires : goal.load_mark-requires
load_mark-requires c =
    record {
      may = may_mark c.args.pass.now c.requires.locked.number c.requires.locked.nodes c.requires.locked.trying c.args.node
          (there c.search_laws.ensures c.args.pass.now c.facts.ensures c.args.node c.requires.locked);
    }

pub returns-then-load_mark-clause-keeps : goal.returns-then-load_mark-clause-keeps
returns-then-load_mark-clause-keeps c =
    mark_keeps_search c.search_laws.ensures c.args.pass.now c.facts.ensures c.args.node c.requires.locked c.load_mark.result
    c.load_mark.new.self.view c.load_mark.ensures.loads

pub returns-then-load_mark-clause-reading : goal.returns-then-load_mark-clause-reading
returns-then-load_mark-clause-reading c =
    mark_reads c.search_laws.ensures c.args.pass.now c.facts.ensures c.args.node c.requires.locked c.load_mark.result
    c.load_mark.new.self.view c.load_mark.ensures.loads

pub returns-then-load_mark-clause-learns : goal.returns-then-load_mark-clause-learns
returns-then-load_mark-clause-learns c =
    mark_teaches c.search_laws.ensures c.args.pass.now c.facts.ensures c.args.node c.requires.locked c.load_mark.result
    c.load_mark.new.self.view c.load_mark.ensures.loads

pub returns-clause-keeps : goal.returns-clause-keeps
returns-clause-keeps c =
    mark_keeps_search c.search_laws.ensures c.args.pass.now c.facts.ensures c.args.node c.requires.locked c.load_mark.result
    c.load_mark.new.self.view c.load_mark.ensures.loads

pub returns-clause-reading : goal.returns-clause-reading
returns-clause-reading c =
    mark_reads c.search_laws.ensures c.args.pass.now c.facts.ensures c.args.node c.requires.locked c.load_mark.result
    c.load_mark.new.self.view c.load_mark.ensures.loads

pub returns-clause-learns : goal.returns-clause-learns
returns-clause-learns c =
    mark_teaches c.search_laws.ensures c.args.pass.now c.facts.ensures c.args.node c.requires.locked c.load_mark.result
    c.load_mark.new.self.view c.load_mark.ensures.loads

pub returns-then-load_mark-clause-moved : goal.returns-then-load_mark-clause-moved
returns-then-load_mark-clause-moved c =
    mark_counts c.args.pass.now c.requires.locked.number c.requires.locked.nodes c.requires.locked.trying c.args.node
    (there c.search_laws.ensures c.args.pass.now c.facts.ensures c.args.node c.requires.locked) c.search_laws.ensures c.load_mark.result
    c.load_mark.new.self.view c.load_mark.ensures.loads c.requires.searched c.if-load_mark.true

pub returns-then-load_mark-clause-alone : goal.returns-then-load_mark-clause-alone
returns-then-load_mark-clause-alone c =
    mark_not_alone c.args.pass.now c.requires.locked.number c.requires.locked.nodes c.requires.locked.trying c.args.node
    (there c.search_laws.ensures c.args.pass.now c.facts.ensures c.args.node c.requires.locked) c.search_laws.ensures c.load_mark.result
    c.load_mark.new.self.view c.load_mark.ensures.loads c.requires.searched c.if-load_mark.true

pub returns-clause-unmarked : goal.returns-clause-unmarked
returns-clause-unmarked c =
    mark_clear c.search_laws.ensures c.args.pass.now c.facts.ensures c.args.node c.requires.locked c.load_mark.result c.load_mark.new.self.view
    c.load_mark.ensures.loads c.if-load_mark.false
