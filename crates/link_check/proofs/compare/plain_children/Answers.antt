use Rattle.std.proofs.Common.{sym, subst}
use Rattle.update_search.specs.Searching.{IsAtTop}
use Rattle.link_check.proofs.Comparing.{node_on}
use Rattle.link_check.proofs.Visits.{key_top, may_read_key, places_found, places_none}
use Rattle.link_check.proofs.compare.plain_children.Goals as goal

pub load_key-key-requires : goal.load_key-key-requires
load_key-key-requires c =
    let u = c.args.pass.now.view in
    let v = c.plain_top.new.pass.view in
    record { may = may_read_key v c.args.node c.facts.ensures c.plain_top.ensures.unlocked (node_on u v c.args.node c.plain_top.ensures.tree c.requires.node) }

pub find_aim-requires : goal.find_aim-requires
find_aim-requires c =
    let v = c.plain_top.new.pass.view in
    record { top = subst IsAtTop (sym c.load_key-key.ensures.view) (key_top c.search_laws.ensures v c.args.node c.load_key-key.result c.in_ok-plain_top.ensures.top) }

pub returns-in_default-3-clause-unlocked : goal.returns-in_default-3-clause-unlocked
returns-in_default-3-clause-unlocked c =
    let v = c.plain_top.new.pass.view in
    let w = c.load_key-key.new.self.view in
    let top = subst IsAtTop (sym c.load_key-key.ensures.view) (key_top c.search_laws.ensures v c.args.node c.load_key-key.result c.in_ok-plain_top.ensures.top) in
    places_none w c.find_aim.new.pass.view (places_found w c.find_aim.new.pass.view c.find_aim.result c.find_aim.ensures.keeps c.find_aim.ensures.given_up) (top.number, top.trying)
