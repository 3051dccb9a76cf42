use Rattle.std.proofs.Common.{◌∙◌, sym, subst}
use Rattle.plan_laws.specs.Tries.{IsTrying}
use Rattle.update_try.proofs.Found.{root_link}
use Rattle.update_try.proofs.Holding.{counted_on, gap_link, gap_null, last_in, locked_in, no_link, no_tag, tried_on}
use Rattle.update_try.proofs.LooksUnder.{gap_locked}
use Rattle.update_try.proofs.planning.plan_grow.Goals as goal

pub look_at_gap-requires-clause-locked : goal.look_at_gap-requires-clause-locked
look_at_gap-requires-clause-locked c =
    gap_locked c.lock.new.pass.view c.look_unmarked.new.pass.view c.args.gap.at.node c.look_unmarked.ensures.keeps
    (locked_in c.lock.new.pass.view c.lock.new.pass.number c.lock.new.locks.items c.args.gap.at.node c.lock.ensures.trying
    (last_in c.args.locks.now.items c.lock.new.locks.items c.args.gap.at.node c.in_ok-lock.ensures.one_more))

pub look_at_gap-requires-clause-root : goal.look_at_gap-requires-clause-root
look_at_gap-requires-clause-root c =
    root_link c.args.pass.now.view c.facts.ensures c.args.gap.at 0
    (gap_link c.args.pass.now.view c.args.gap.at c.args.gap.tag c.args.pair.key c.requires.found.found)

pub look_at_gap-requires-clause-found : goal.look_at_gap-requires-clause-found
look_at_gap-requires-clause-found c =
    let gap = (c.look_unmarked.ensures.keeps.looks.gap c.args.gap.at.node c.args.gap.tag c.args.pair.key c.args.gap.at.side
    (c.lock.ensures.looks.gap c.args.gap.at.node c.args.gap.tag c.args.pair.key c.args.gap.at.side c.requires.found.found)) in
    (gap.above, gap.below, gap_null c.look_unmarked.new.pass.view c.args.gap.at c.args.gap.tag c.args.pair.key gap)

pub look_at_gap-requires-clause-first_link : goal.look_at_gap-requires-clause-first_link
look_at_gap-requires-clause-first_link c = λ known.
    no_link c.args.pass.now.view c.args.pass.now.number c.args.locks.now.items c.requires.trying c.requires.none c.args.gap.at.node c.args.gap.at.side
    (c.lock.ensures.learns.link c.args.gap.at.node c.args.gap.at.side (c.look_unmarked.ensures.learns.link c.args.gap.at.node c.args.gap.at.side known))

pub look_at_gap-requires-clause-first_tag : goal.look_at_gap-requires-clause-first_tag
look_at_gap-requires-clause-first_tag c = λ known.
    no_tag c.args.pass.now.view c.args.pass.now.number c.args.locks.now.items c.requires.trying c.requires.none c.args.gap.at.node c.args.gap.at.side
    (c.lock.ensures.learns.tag c.args.gap.at.node c.args.gap.at.side (c.look_unmarked.ensures.learns.tag c.args.gap.at.node c.args.gap.at.side known))

pub returns-in_err-look_unmarked-clause-trying : goal.returns-in_err-look_unmarked-clause-trying
returns-in_err-look_unmarked-clause-trying c =
    subst (λ n. IsTrying c.look_unmarked.new.pass.view n c.lock.new.locks.items) (sym c.look_unmarked.ensures.same.number)
    (c.look_unmarked.ensures.keeps.places.trying c.lock.new.pass.number c.lock.new.locks.items c.lock.ensures.trying)

pub returns-in_err-look_at_gap-clause-trying : goal.returns-in_err-look_at_gap-clause-trying
returns-in_err-look_at_gap-clause-trying c =
    subst (λ n. IsTrying c.look_at_gap.new.pass.view n c.lock.new.locks.items) (sym (c.look_at_gap.ensures.same.number ∙ c.look_unmarked.ensures.same.number))
    (c.look_at_gap.ensures.keeps.places.trying c.lock.new.pass.number c.lock.new.locks.items
    (c.look_unmarked.ensures.keeps.places.trying c.lock.new.pass.number c.lock.new.locks.items c.lock.ensures.trying))

pub returns-clause-trying : goal.returns-clause-trying
returns-clause-trying c =
    subst (λ n. IsTrying c.look_at_gap.new.pass.view n c.lock.new.locks.items) (sym (c.look_at_gap.ensures.same.number ∙ c.look_unmarked.ensures.same.number))
    (c.look_at_gap.ensures.keeps.places.trying c.lock.new.pass.number c.lock.new.locks.items
    (c.look_unmarked.ensures.keeps.places.trying c.lock.new.pass.number c.lock.new.locks.items c.lock.ensures.trying))

pub returns-in_err-look_unmarked-clause-counted : goal.returns-in_err-look_unmarked-clause-counted
returns-in_err-look_unmarked-clause-counted c =
    counted_on c.from_residual-in_err-look_unmarked.result c.look_unmarked.new.pass.view c.in_err-look_unmarked.field-0.0 c.lock.ensures.keeps c.in_err-look_unmarked.ensures.moved
    c.from_residual-in_err-look_unmarked.ensures.1

pub returns-in_err-look_at_gap-clause-counted : goal.returns-in_err-look_at_gap-clause-counted
returns-in_err-look_at_gap-clause-counted c =
    counted_on c.from_residual-in_err-look_at_gap.result c.look_at_gap.new.pass.view c.in_err-look_at_gap.field-0.0 (tried_on c.lock.ensures.keeps c.look_unmarked.ensures.keeps.places.keeps) c.in_err-look_at_gap.ensures.moved
    c.from_residual-in_err-look_at_gap.ensures.1
