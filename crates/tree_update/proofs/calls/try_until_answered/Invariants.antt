use Rattle.table_steps.specs.Passes.{AtRest, IsSamePass}
use Rattle.tree_update.specs.Calls.{GoesOn, PutsUnlooked}
use Rattle.tree_update.proofs.calls.try_until_answered.Given as goal

abbrev pub invariant-tries : goal.invariant-tries
invariant-tries g l =
    AtRest l.pass.view × GoesOn l.fn.pass.view l.pass.view × IsSamePass l.fn.pass l.pass
    × PutsUnlooked l.fn.wanted.only_new l.fn.wanted.change l.fn.pass.view l.pass.view
