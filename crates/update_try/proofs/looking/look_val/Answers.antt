use Rattle.update_try.proofs.LooksUnder.{there, val_keeps_search, val_loaded, val_teaches}
use Rattle.update_try.proofs.looking.look_val.Goals as goal

pub load_val-requires : goal.load_val-requires
load_val-requires c =
    record { may = record { inside = c.requires.locked.trying.working.inside; there = there c.search_laws.ensures c.args.pass.now c.facts.ensures c.args.node c.requires.locked } }

pub returns-clause-keeps : goal.returns-clause-keeps
returns-clause-keeps c =
    val_keeps_search c.search_laws.ensures c.args.pass.now c.facts.ensures c.args.node c.requires.locked c.load_val.result c.load_val.new.self.view c.load_val.ensures.view c.load_val.ensures.event

pub returns-clause-learns : goal.returns-clause-learns
returns-clause-learns c =
    val_teaches c.search_laws.ensures c.args.pass.now c.facts.ensures c.args.node c.requires.locked c.load_val.result c.load_val.new.self.view c.load_val.ensures.view c.load_val.ensures.event

pub returns-clause-val : goal.returns-clause-val
returns-clause-val c =
    val_loaded c.search_laws.ensures c.args.pass.now c.facts.ensures c.args.node c.requires.locked c.load_val.result c.load_val.new.self.view c.load_val.ensures.view c.load_val.ensures.event
