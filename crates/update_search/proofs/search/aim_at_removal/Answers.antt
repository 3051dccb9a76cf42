use Rattle.index_words.specs.declared.side.Side.TheVariants.{Right}
use Rattle.update_search.proofs.Aims.{aims_at_removal}
use Rattle.update_search.proofs.Keeps.{link_search, none_locked}
use Rattle.update_search.proofs.search.aim_at_removal.Goals as goal

pub returns-clause-keeps : goal.returns-clause-keeps
returns-clause-keeps c =
    let v = c.args.pass.now.view in
    let trying = c.requires.trying in
    link_search c.search_laws.ensures v c.args.found.node (none_locked v trying.0 trying.1 c.args.found.node) c.load_link-right.new.self.view Right c.load_link-right.result c.load_link-right.ensures.view

pub returns-clause-aim : goal.returns-clause-aim
returns-clause-aim c =
    let v = c.args.pass.now.view in
    let trying = c.requires.trying in
    aims_at_removal c.search_laws.ensures v c.args.key c.args.found c.ranges.key.fits c.requires.found trying.0 trying.1 c.load_link-right.new.self.view c.load_link-right.result c.load_link-right.ensures.view
