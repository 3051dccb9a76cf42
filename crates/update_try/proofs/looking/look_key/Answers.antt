use Rattle.update_try.proofs.LooksUnder.{key_keeps_search, key_known, key_loaded, key_teaches, there}
use Rattle.update_try.proofs.looking.look_key.Goals as goal

pub load_key-requires : goal.load_key-requires
load_key-requires c =
    record { may = record { inside = c.requires.locked.trying.working.inside; there = there c.search_laws.ensures c.args.pass.now c.facts.ensures c.args.node c.requires.locked } }

pub returns-clause-keeps : goal.returns-clause-keeps
returns-clause-keeps c =
    key_keeps_search c.search_laws.ensures c.args.pass.now c.facts.ensures c.args.node c.requires.locked c.load_key.result c.load_key.new.self.view c.load_key.ensures.view c.load_key.ensures.event

pub returns-clause-learns : goal.returns-clause-learns
returns-clause-learns c =
    key_teaches c.search_laws.ensures c.args.pass.now c.facts.ensures c.args.node c.requires.locked c.load_key.result c.load_key.new.self.view c.load_key.ensures.view c.load_key.ensures.event

pub returns-clause-key : goal.returns-clause-key
returns-clause-key c =
    key_loaded c.search_laws.ensures c.args.pass.now c.facts.ensures c.args.node c.requires.locked c.load_key.result c.load_key.new.self.view c.load_key.ensures.view c.load_key.ensures.event

pub returns-clause-known : goal.returns-clause-known
returns-clause-known c =
    key_known c.search_laws.ensures c.args.pass.now c.facts.ensures c.args.node c.requires.locked c.load_key.result c.load_key.new.self.view c.load_key.ensures.view c.load_key.ensures.event
