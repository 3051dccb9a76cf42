use Rattle.std.proofs.Common.{ℕ, ◌<◌, List, subst, sym}
use Rattle.key_map.specs.Lists.{count}
use Rattle.core_updates.specs.Plans.{LinkLook}
use Rattle.update_try.proofs.NextLooks.{counts_last, counts_second, locked_in, next_kept, nothing_kept, unlocked_nothing}
use Rattle.update_try.proofs.Holding.{counted_on}
use Rattle.update_try.proofs.planning.hold_next.Goals as goal

pub look_next-requires-clause-locked : goal.look_next-requires-clause-locked
look_next-requires-clause-locked c =
    let k = c.args.found.now.node in
    locked_in c.lock.new.pass.view c.lock.new.pass.number c.lock.new.locks.items k c.lock.ensures.trying
    (subst (λ (ks : List ℕ). 0 < count k ks) (sym c.in_ok-lock.ensures.one_more) (counts_last k c.args.locks.now.items))

pub look_next-requires-clause-at : goal.look_next-requires-clause-at
look_next-requires-clause-at c = c.lock.ensures.looks.looks (LinkLook c.args.found.now.at c.args.found.now.node) (c.requires.near c.if-found-removed.true)

pub look_next-requires-clause-first : goal.look_next-requires-clause-first
look_next-requires-clause-first c =
    let k = c.args.found.now.node in
    nothing_kept c.args.pass.now.view c.lock.new.pass.view k c.lock.ensures.learns (unlocked_nothing c.args.pass.now.view k c.requires.unlocked)

pub returns-then-found-removed-clause-next : goal.returns-then-found-removed-clause-next
returns-then-found-removed-clause-next c = λ key found.
    c.in_ok-next.ensures.next key (next_kept c.args.pass.now.view c.lock.new.pass.view key c.args.found.now c.lock.ensures.reading c.lock.ensures.looks found)

pub look_next-requires-2-clause-locked : goal.look_next-requires-2-clause-locked
look_next-requires-2-clause-locked c =
    let k = c.args.found.now.node in
    locked_in c.hold_far.new.pass.view c.hold_far.new.pass.number c.hold_far.new.locks.items k c.hold_far.ensures.trying
    (subst (λ (ks : List ℕ). 0 < count k ks) (sym c.in_ok-hold_far.ensures.locks) (counts_second c.args.found.now.at.node k c.args.locks.now.items))

pub returns-clause-next : goal.returns-clause-next
returns-clause-next c = λ key found.
    c.in_ok-next-2.ensures.next key (next_kept c.args.pass.now.view c.hold_far.new.pass.view key c.args.found.now c.hold_far.ensures.reading c.hold_far.ensures.looks found)

pub returns-in_err-next-clause-counted : goal.returns-in_err-next-clause-counted
returns-in_err-next-clause-counted c =
    counted_on c.from_residual-in_err-next.result c.look_next.new.pass.view c.in_err-next.field-0.0 c.lock.ensures.keeps c.in_err-next.ensures.counted
    c.from_residual-in_err-next.ensures.1

pub returns-in_err-next-2-clause-counted : goal.returns-in_err-next-2-clause-counted
returns-in_err-next-2-clause-counted c =
    counted_on c.from_residual-in_err-next-2.result c.look_next-2.new.pass.view c.in_err-next-2.field-0.0 c.hold_far.ensures.places c.in_err-next-2.ensures.counted
    c.from_residual-in_err-next-2.ensures.1
