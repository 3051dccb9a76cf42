use Rattle.std.proofs.Common.{◌<◌, ◌++◌, ◌∷◌, [], ◌∙◌, sym, subst}
use Rattle.index_words.specs.declared.view.reading.Reading.{Reading}
use Rattle.key_map.specs.Lists.{count}
use Rattle.core_events.specs.Searches.{search_nodes}
use Rattle.plan_laws.specs.Tries.{IsTrying}
use Rattle.update_search.proofs.Nodes.{link_node}
use Rattle.update_try.proofs.Found.{root_link}
use Rattle.update_try.proofs.Holding.{counted_on, first_locked, locked_on, tried_on, trying_on}
use Rattle.update_try.proofs.NextLooks.{nothing_apart, nothing_kept, still_off, unlocked_nothing}
use Rattle.update_try.proofs.planning.hold_far.Goals as goal

pub lock-requires-clause-searched : goal.lock-requires-clause-searched
lock-requires-clause-searched c = link_node c.args.pass.now.view c.args.found.now.at c.args.found.now.node c.requires.found.1.at

pub lock-requires-2-clause-unlocked : goal.lock-requires-2-clause-unlocked
lock-requires-2-clause-unlocked c =
    let k = c.args.found.now.at.node in
    let w = c.lock.new.pass.view in
    let now : IsTrying w c.lock.new.pass.number (c.args.locks.now.items ++ k ∷ [])
    = subst (IsTrying w c.lock.new.pass.number) c.in_ok-lock.ensures.one_more c.lock.ensures.trying in
    still_off c.args.pass.now.view w c.args.pass.now.number c.lock.new.pass.number c.args.locks.now.items k c.requires.trying now c.args.found.now.node
    c.requires.found.1.apart c.requires.unlocked

pub look_unmarked-requires-clause-locked : goal.look_unmarked-requires-clause-locked
look_unmarked-requires-clause-locked c =
    let items = c.args.locks.now.items in
    first_locked items c.args.found.now.node c.lock-2.ensures.trying c.in_ok-lock.ensures.one_more c.in_ok-lock-2.ensures.one_more

pub look_unmarked-requires-clause-searched : goal.look_unmarked-requires-clause-searched
look_unmarked-requires-clause-searched c =
    subst (λ (r : Reading). 0 < count c.args.found.now.at.node (search_nodes 0 r)) (sym (c.lock-2.ensures.reading ∙ c.lock.ensures.reading))
    (link_node c.args.pass.now.view c.args.found.now.at c.args.found.now.node c.requires.found.1.at)

pub look_leads-requires-clause-locked : goal.look_leads-requires-clause-locked
look_leads-requires-clause-locked c =
    let items = c.args.locks.now.items in
    locked_on c.look_unmarked.ensures.keeps
    (first_locked items c.args.found.now.node c.lock-2.ensures.trying c.in_ok-lock.ensures.one_more c.in_ok-lock-2.ensures.one_more)

pub look_leads-requires-clause-root : goal.look_leads-requires-clause-root
look_leads-requires-clause-root c = root_link c.args.pass.now.view c.facts.ensures c.args.found.now.at c.args.found.now.node c.requires.found.1.at

pub look_leads-requires-clause-first : goal.look_leads-requires-clause-first
look_leads-requires-clause-first c =
    let k = c.args.found.now.at.node in
    let v = c.args.pass.now.view in
    let one = nothing_kept v c.lock.new.pass.view k c.lock.ensures.learns (unlocked_nothing v k c.requires.parent) in
    let two = nothing_kept c.lock.new.pass.view c.lock-2.new.pass.view k c.lock-2.ensures.learns one in
    (nothing_kept c.lock-2.new.pass.view c.look_unmarked.new.pass.view k c.look_unmarked.ensures.learns two).link c.args.found.now.at.side

pub returns-clause-first : goal.returns-clause-first
returns-clause-first c =
    let k = c.args.found.now.node in
    let v = c.args.pass.now.view in
    let one = nothing_kept v c.lock.new.pass.view k c.lock.ensures.learns (unlocked_nothing v k c.requires.unlocked) in
    let two = nothing_kept c.lock.new.pass.view c.lock-2.new.pass.view k c.lock-2.ensures.learns one in
    let three = nothing_kept c.lock-2.new.pass.view c.look_unmarked.new.pass.view k c.look_unmarked.ensures.learns two in
    nothing_apart c.args.found.now.at c.look_unmarked.new.pass.view c.look_leads.new.pass.view k c.look_leads.ensures.learns c.requires.found.1.apart three

pub returns-in_err-look_unmarked-clause-trying : goal.returns-in_err-look_unmarked-clause-trying
returns-in_err-look_unmarked-clause-trying c = trying_on c.look_unmarked.ensures.keeps c.look_unmarked.ensures.same.number c.lock-2.ensures.trying

pub returns-in_err-look_leads-clause-trying : goal.returns-in_err-look_leads-clause-trying
returns-in_err-look_leads-clause-trying c =
    let one = trying_on c.look_unmarked.ensures.keeps c.look_unmarked.ensures.same.number c.lock-2.ensures.trying in
    trying_on c.look_leads.ensures.keeps c.look_leads.ensures.same.number one

pub returns-clause-trying : goal.returns-clause-trying
returns-clause-trying c =
    let one = trying_on c.look_unmarked.ensures.keeps c.look_unmarked.ensures.same.number c.lock-2.ensures.trying in
    trying_on c.look_leads.ensures.keeps c.look_leads.ensures.same.number one

pub returns-in_err-lock-2-clause-counted : goal.returns-in_err-lock-2-clause-counted
returns-in_err-lock-2-clause-counted c =
    counted_on c.from_residual-in_err-lock-2.result c.lock-2.new.pass.view c.in_err-lock-2.field-0.0 c.lock.ensures.keeps c.in_err-lock-2.ensures.busy
    c.from_residual-in_err-lock-2.ensures.1

pub returns-in_err-look_unmarked-clause-counted : goal.returns-in_err-look_unmarked-clause-counted
returns-in_err-look_unmarked-clause-counted c =
    counted_on c.from_residual-in_err-look_unmarked.result c.look_unmarked.new.pass.view c.in_err-look_unmarked.field-0.0 (tried_on c.lock.ensures.keeps c.lock-2.ensures.keeps) c.in_err-look_unmarked.ensures.moved
    c.from_residual-in_err-look_unmarked.ensures.1

pub returns-in_err-look_leads-clause-counted : goal.returns-in_err-look_leads-clause-counted
returns-in_err-look_leads-clause-counted c =
    counted_on c.from_residual-in_err-look_leads.result c.look_leads.new.pass.view c.in_err-look_leads.field-0.0 (tried_on (tried_on c.lock.ensures.keeps c.lock-2.ensures.keeps) c.look_unmarked.ensures.keeps.places.keeps) c.in_err-look_leads.ensures.moved
    c.from_residual-in_err-look_leads.ensures.1
