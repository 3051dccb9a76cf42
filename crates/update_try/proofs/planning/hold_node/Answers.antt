use Rattle.std.proofs.Common.{◌<◌, ap, ◌∙◌, sym, subst}
use Rattle.index_words.specs.declared.side.Side.TheVariants.{Right}
use Rattle.index_words.specs.declared.view.reading.Reading.{Reading}
use Rattle.key_map.specs.Lists.{count}
use Rattle.core_events.specs.Searches.{search_nodes}
use Rattle.core_trees.specs.declared.link.Link.{Link}
use Rattle.core_updates.specs.Plans.{LinkLook}
use Rattle.update_search.proofs.Nodes.{link_node}
use Rattle.update_try.proofs.Found.{node_some, root_link}
use Rattle.update_try.proofs.Holding.{counted_on, first_locked, known_key, last_locked, locked_on, no_link, other_side, right_of, tried_on, trying_on}
use Rattle.update_try.proofs.planning.hold_node.Goals as goal

pub lock-requires-clause-searched : goal.lock-requires-clause-searched
lock-requires-clause-searched c = link_node c.args.pass.now.view c.args.found.now.at c.args.found.now.node c.requires.found.1.at

pub look_unmarked-requires-clause-searched : goal.look_unmarked-requires-clause-searched
look_unmarked-requires-clause-searched c =
    let at = c.args.found.now.at in
    subst (λ (r : Reading). 0 < count at.node (search_nodes 0 r)) (sym (c.lock-2.ensures.reading ∙ c.lock.ensures.reading))
    (link_node c.args.pass.now.view at c.args.found.now.node c.requires.found.1.at)

pub look_leads-requires-clause-locked : goal.look_leads-requires-clause-locked
look_leads-requires-clause-locked c =
    let items = c.args.locks.now.items in
    locked_on c.look_unmarked.ensures.keeps
    (first_locked items c.args.found.now.node c.lock-2.ensures.trying c.in_ok-lock.ensures.one_more c.in_ok-lock-2.ensures.one_more)

pub look_leads-requires-clause-root : goal.look_leads-requires-clause-root
look_leads-requires-clause-root c = root_link c.args.pass.now.view c.facts.ensures c.args.found.now.at c.args.found.now.node c.requires.found.1.at

pub look_leads-requires-clause-first : goal.look_leads-requires-clause-first
look_leads-requires-clause-first c = λ known.
    let at = c.args.found.now.at in
    let two = c.lock-2.ensures.learns.link at.node at.side (c.look_unmarked.ensures.learns.link at.node at.side known) in
    no_link c.args.pass.now.view c.args.pass.now.number c.args.locks.now.items c.requires.trying c.requires.none at.node at.side
    (c.lock.ensures.learns.link at.node at.side two)

pub look_unmarked-requires-2-clause-locked : goal.look_unmarked-requires-2-clause-locked
look_unmarked-requires-2-clause-locked c =
    locked_on c.look_leads.ensures.keeps
    (locked_on c.look_unmarked.ensures.keeps (last_locked c.lock.new.locks.items c.lock-2.ensures.trying c.in_ok-lock-2.ensures.one_more))

pub returns-in_err-look_unmarked-clause-trying : goal.returns-in_err-look_unmarked-clause-trying
returns-in_err-look_unmarked-clause-trying c = trying_on c.look_unmarked.ensures.keeps c.look_unmarked.ensures.same.number c.lock-2.ensures.trying

pub returns-in_err-look_leads-clause-trying : goal.returns-in_err-look_leads-clause-trying
returns-in_err-look_leads-clause-trying c =
    let one = trying_on c.look_unmarked.ensures.keeps c.look_unmarked.ensures.same.number c.lock-2.ensures.trying in
    trying_on c.look_leads.ensures.keeps c.look_leads.ensures.same.number one

pub returns-in_err-look_unmarked-2-clause-trying : goal.returns-in_err-look_unmarked-2-clause-trying
returns-in_err-look_unmarked-2-clause-trying c =
    let one = trying_on c.look_unmarked.ensures.keeps c.look_unmarked.ensures.same.number c.lock-2.ensures.trying in
    let two = trying_on c.look_leads.ensures.keeps c.look_leads.ensures.same.number one in
    trying_on c.look_unmarked-2.ensures.keeps c.look_unmarked-2.ensures.same.number two

pub look_at_node-requires-clause-locked : goal.look_at_node-requires-clause-locked
look_at_node-requires-clause-locked c =
    let one = locked_on c.look_unmarked.ensures.keeps (last_locked c.lock.new.locks.items c.lock-2.ensures.trying c.in_ok-lock-2.ensures.one_more) in
    locked_on c.look_unmarked-2.ensures.keeps (locked_on c.look_leads.ensures.keeps one)

pub look_at_node-requires-clause-some : goal.look_at_node-requires-clause-some
look_at_node-requires-clause-some c = node_some c.args.pass.now.view c.facts.ensures c.requires.found.0 c.args.found.now c.requires.found.1

pub returns-clause-trying : goal.returns-clause-trying
returns-clause-trying c =
    let one = trying_on c.look_unmarked.ensures.keeps c.look_unmarked.ensures.same.number c.lock-2.ensures.trying in
    let two = trying_on c.look_leads.ensures.keeps c.look_leads.ensures.same.number one in
    let three = trying_on c.look_unmarked-2.ensures.keeps c.look_unmarked-2.ensures.same.number two in
    trying_on c.look_at_node.ensures.keeps c.look_at_node.ensures.same.number three

pub returns-clause-right : goal.returns-clause-right
returns-clause-right c = λ known.
    let node = c.args.found.now.node in
    let five = c.look_at_node.ensures.learns.link node Right (other_side node) known in
    let four = c.look_unmarked-2.ensures.learns.link node Right five in
    let three = c.look_leads.ensures.learns.link node Right (λ same. c.requires.found.1.apart (sym (ap (λ (l : Link). l.node) same))) four in
    let two = c.lock-2.ensures.learns.link node Right (c.look_unmarked.ensures.learns.link node Right three) in
    no_link c.args.pass.now.view c.args.pass.now.number c.args.locks.now.items c.requires.trying c.requires.none node Right
    (c.lock.ensures.learns.link node Right two)

pub returns-clause-stays : goal.returns-clause-stays
returns-clause-stays c = λ key right stepped.
    let locked = c.look_unmarked.ensures.reading ∙ c.lock-2.ensures.reading ∙ c.lock.ensures.reading in
    let same = c.look_unmarked-2.ensures.reading ∙ c.look_leads.ensures.reading ∙ locked in
    c.look_at_node.ensures.reading key right (right_of c.args.pass.now.view c.look_unmarked-2.new.pass.view key right c.args.found.now same stepped) ∙ same

pub returns-clause-node : goal.returns-clause-node
returns-clause-node c = λ key finds.
    let found = c.args.found.now in
    let locked = c.look_unmarked.ensures.reading ∙ c.lock-2.ensures.reading ∙ c.lock.ensures.reading in
    let same = c.look_unmarked-2.ensures.reading ∙ c.look_leads.ensures.reading ∙ locked in
    let look = LinkLook found.at found.node in
    record {
      formed = record {
        some = node_some c.args.pass.now.view c.facts.ensures c.requires.found.0 found c.requires.found.1;
        root = root_link c.args.pass.now.view c.facts.ensures found.at found.node finds.at;
      };
      at = c.look_at_node.ensures.keeps.looks.looks look (c.look_unmarked-2.ensures.keeps.looks.looks look c.in_ok-look_leads.ensures.leads);
      key_is = c.look_at_node.ensures.key key (known_key c.args.pass.now.view c.look_unmarked-2.new.pass.view key found same finds);
      left_link = c.look_at_node.ensures.left;
    }

pub returns-in_err-lock-2-clause-counted : goal.returns-in_err-lock-2-clause-counted
returns-in_err-lock-2-clause-counted c =
    counted_on c.from_residual-in_err-lock-2.result c.lock-2.new.pass.view c.in_err-lock-2.field-0.0 c.lock.ensures.keeps c.in_err-lock-2.ensures.busy
    c.from_residual-in_err-lock-2.ensures.1

pub returns-in_err-look_unmarked-clause-counted : goal.returns-in_err-look_unmarked-clause-counted
returns-in_err-look_unmarked-clause-counted c =
    counted_on c.from_residual-in_err-look_unmarked.result c.look_unmarked.new.pass.view c.in_err-look_unmarked.field-0.0 (tried_on c.lock.ensures.keeps c.lock-2.ensures.keeps) c.in_err-look_unmarked.ensures.moved
    c.from_residual-in_err-look_unmarked.ensures.1

pub returns-in_err-look_leads-clause-counted : goal.returns-in_err-look_leads-clause-counted
returns-in_err-look_leads-clause-counted c =
    counted_on c.from_residual-in_err-look_leads.result c.look_leads.new.pass.view c.in_err-look_leads.field-0.0 (tried_on (tried_on c.lock.ensures.keeps c.lock-2.ensures.keeps) c.look_unmarked.ensures.keeps.places.keeps) c.in_err-look_leads.ensures.moved
    c.from_residual-in_err-look_leads.ensures.1

pub returns-in_err-look_unmarked-2-clause-counted : goal.returns-in_err-look_unmarked-2-clause-counted
returns-in_err-look_unmarked-2-clause-counted c =
    counted_on c.from_residual-in_err-look_unmarked-2.result c.look_unmarked-2.new.pass.view c.in_err-look_unmarked-2.field-0.0 (tried_on (tried_on (tried_on c.lock.ensures.keeps c.lock-2.ensures.keeps) c.look_unmarked.ensures.keeps.places.keeps) c.look_leads.ensures.keeps.places.keeps) c.in_err-look_unmarked-2.ensures.moved
    c.from_residual-in_err-look_unmarked-2.ensures.1
