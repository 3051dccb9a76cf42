use Rattle.pass_slots.specs.Owned.{KeepsLooks}
use Rattle.plan_laws.specs.Frames.{KeepsOwned}
use Rattle.table_steps.specs.Passes.{IsSamePass}
use Rattle.update_try.specs.Parting.{HasParted}
use Rattle.tree_update.proofs.ending.look_at_others.Given as goal

abbrev pub invariant-others : goal.invariant-others
invariant-others l =
    HasParted l.pass.view l.pass.number l.parted × KeepsLooks l.pass.view.update.waiting l.waits × KeepsOwned l.fn.pass.view l.pass.view × IsSamePass l.fn.pass l.pass
