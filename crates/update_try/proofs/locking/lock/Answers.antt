use Rattle.std.proofs.Common.{◌≡◌, [], ◌∷◌, ◌++◌, ◌+◌, ◌∙◌, sym, subst, inr}
use Rattle.plan_laws.specs.Frames.{KeepsTry}
use Rattle.plan_laws.specs.Looks.{KeepsLooks}
use Rattle.plan_laws.specs.Tries.{CanLock, IsTrying}
use Rattle.update_search.proofs.Odd.{node_there}
use Rattle.update_search.proofs.OddLocks.{locked_trying, met_alone, met_keeps}
use Rattle.update_try.specs.Looking.{LearnsNothing}
use Rattle.update_try.proofs.Learns.{locked_learns, met_learns}
use Rattle.update_try.proofs.locking.lock.Goals as goal

pub returns-then-not-try_lock-clause-looks : goal.returns-then-not-try_lock-clause-looks
returns-then-not-try_lock-clause-looks c =
    let met = c.try_lock.ensures.busy c.if-not-try_lock.true in
    subst (KeepsLooks c.args.pass.now.view) (sym met.view) ((c.search_laws.ensures.looks c.args.pass.now.view).met (c.args.pass.now.number + 1) met.found)

pub returns-then-not-try_lock-clause-learns : goal.returns-then-not-try_lock-clause-learns
returns-then-not-try_lock-clause-learns c =
    let met = c.try_lock.ensures.busy c.if-not-try_lock.true in
    subst (LearnsNothing c.args.pass.now.view) (sym met.view) (met_learns c.args.pass.now.view c.args.node (c.args.pass.now.number + 1) met.found)

pub returns-then-not-try_lock-clause-trying : goal.returns-then-not-try_lock-clause-trying
returns-then-not-try_lock-clause-trying c =
    let can : CanLock c.args.pass.now.view c.args.node = record { searched = inr c.requires.searched; unlocked = c.requires.unlocked } in
    let met = c.try_lock.ensures.busy c.if-not-try_lock.true in
    let on = (met_keeps c.search_laws.ensures c.args.pass.now c.args.pass.now.number c.args.locks.now.items c.requires.trying c.args.node c.requires.searched
    can c.try_lock.new.self.view met).trying c.args.pass.now.number c.args.locks.now.items c.requires.trying in
    subst (λ n. IsTrying c.try_lock.new.self.view n c.args.locks.now.items) (sym c.try_lock.ensures.same.number) on

pub returns-then-not-try_lock-clause-alone : goal.returns-then-not-try_lock-clause-alone
returns-then-not-try_lock-clause-alone c =
    let can : CanLock c.args.pass.now.view c.args.node = record { searched = inr c.requires.searched; unlocked = c.requires.unlocked } in
    met_alone c.search_laws.ensures c.args.pass.now c.args.pass.now.number c.args.locks.now.items c.requires.trying c.args.node c.requires.searched can
    c.try_lock.new.self.view (node_there c.args.pass.now.view c.facts.ensures c.args.pass.now.number c.args.locks.now.items c.requires.trying
    c.args.node c.requires.searched)
    (c.try_lock.ensures.busy c.if-not-try_lock.true)

pub returns-clause-looks : goal.returns-clause-looks
returns-clause-looks c =
    let locks = c.try_lock.ensures.locked c.if-not-try_lock.false in
    subst (KeepsLooks c.args.pass.now.view) (sym locks.view) ((c.search_laws.ensures.looks c.args.pass.now.view).locked c.args.node c.requires.unlocked)

pub returns-clause-learns : goal.returns-clause-learns
returns-clause-learns c =
    let locks = c.try_lock.ensures.locked c.if-not-try_lock.false in
    subst (LearnsNothing c.args.pass.now.view) (sym locks.view) (locked_learns c.args.pass.now.view c.args.node)

pub returns-clause-trying : goal.returns-clause-trying
returns-clause-trying c =
    let can : CanLock c.args.pass.now.view c.args.node = record { searched = inr c.requires.searched; unlocked = c.requires.unlocked } in
    let locks = c.try_lock.ensures.locked c.if-not-try_lock.false in
    let on = locked_trying c.search_laws.ensures c.args.pass.now c.args.pass.now.number c.args.locks.now.items c.requires.trying c.args.node
    c.requires.searched can c.try_lock.new.self.view locks c.args.pass.now.number c.args.locks.now.items c.requires.trying in
    subst (λ n. IsTrying c.try_lock.new.self.view n c.push.new.self.items) (sym c.try_lock.ensures.same.number)
    (subst (IsTrying c.try_lock.new.self.view c.args.pass.now.number) (sym c.push.ensures.items) on)

pub returns-then-not-try_lock-clause-keeps : goal.returns-then-not-try_lock-clause-keeps
returns-then-not-try_lock-clause-keeps c =
    let met = c.try_lock.ensures.busy c.if-not-try_lock.true in
    subst (KeepsTry c.args.pass.now.view) (sym met.view) ((c.search_laws.ensures.steps c.args.pass.now.view).met (c.args.pass.now.number + 1) met.found)

pub returns-clause-keeps : goal.returns-clause-keeps
returns-clause-keeps c =
    let locks = c.try_lock.ensures.locked c.if-not-try_lock.false in
    subst (KeepsTry c.args.pass.now.view) (sym locks.view) ((c.search_laws.ensures.steps c.args.pass.now.view).locked c.args.node)
