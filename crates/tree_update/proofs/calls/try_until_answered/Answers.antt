use Rattle.std.proofs.Common.{arith}
use Rattle.tree_update.proofs.CallAnswers.{answers_later}
use Rattle.tree_update.proofs.CallSteps.{goes_more, stays_nothing, unlooked_more, unlooked_nothing}
use Rattle.bundle_reads.proofs.ReadMoves.{same_pass, same_more}
use Rattle.tree_update.proofs.calls.try_until_answered.Goals as goal

pub tries-init : goal.tries-init
tries-init g c =
    let p = c.args.pass.now in (c.requires.rest, (stays_nothing p.view).goes, same_pass p, λ plain put. unlooked_nothing p.view)

pub try_once-requires-clause-left : goal.try_once-requires-clause-left
try_once-requires-clause-left g c =
    omega (arith, c.requires.left, c.tries.invariant.1.left, c.wait_for_slots-slots.ensures.stays.goes.left)

pub returns-in-Some-try_once-clause-answered : goal.returns-in-Some-try_once-clause-answered
returns-in-Some-try_once-clause-answered g c =
    let p = c.args.pass.now in
    let q = c.tries.pass in
    let x = c.wait_for_slots-slots.new.pass in
    let e = c.wait_for_slots-slots.ensures in
    let wanted = c.args.wanted in
    answers_later wanted.only_new p x c.try_once.new.pass.view wanted.line wanted.key wanted.change c.in-Some-try_once.done
    (same_more p q x c.tries.invariant.2 e.same) (goes_more p.view q.view x.view c.tries.invariant.1 e.stays.goes) c.in-Some-try_once.ensures.answered

pub returns-in-Some-try_once-clause-unlooked : goal.returns-in-Some-try_once-clause-unlooked
returns-in-Some-try_once-clause-unlooked g c = λ plain put.
    let p = c.args.pass.now.view in
    let q = c.tries.pass.view in
    let x = c.wait_for_slots-slots.new.pass.view in
    let e = c.wait_for_slots-slots.ensures in
    unlooked_more p x c.try_once.new.pass.view (unlooked_more p q x (c.tries.invariant.3 plain put) (record { fixes = e.stays.fixes; waits = e.waits }))
    (c.try_once.ensures.unlooked plain put)

pub tries-preserved : goal.tries-preserved
tries-preserved g c =
    let p = c.args.pass.now in
    let q = c.tries.pass in
    let x = c.wait_for_slots-slots.new.pass in
    let w = c.try_once.new.pass in
    let e = c.wait_for_slots-slots.ensures in (
      c.try_once.ensures.rest,
      goes_more p.view x.view w.view (goes_more p.view q.view x.view c.tries.invariant.1 e.stays.goes) (c.try_once.ensures.goes c.in_default.is),
      same_more p x w (same_more p q x c.tries.invariant.2 e.same) c.try_once.ensures.same,
      λ plain put.
          unlooked_more p.view x.view w.view
          (unlooked_more p.view q.view x.view (c.tries.invariant.3 plain put) (record { fixes = e.stays.fixes; waits = e.waits }))
          (c.try_once.ensures.unlooked plain put),
    )
