use Rattle.plan_laws.specs.Frames.{KeepsOwned}
use Rattle.core_updates.specs.declared.plan.PlanSlots.{PlanSlots}
use Rattle.plan_laws.specs.Prunes.{HasNumbered}
use Rattle.plan_laws.specs.Raises.{HasMarked}
use Rattle.table_steps.specs.Passes.{IsSamePass}
use Rattle.update_try.proofs.after_raise.mark_all.Given as goal

abbrev pub invariant-nodes : goal.invariant-nodes
invariant-nodes l =
    ((slots : PlanSlots) → HasNumbered l.fn.pass.view l.fn.pass.number l.plan slots → HasMarked l.pass.view l.fn.pass.number l.plan slots l.node-index)
    × KeepsOwned l.fn.pass.view l.pass.view × IsSamePass l.fn.pass l.pass
