use Rattle.pass_slots.specs.Owned.{KeepsLooks}
use Rattle.plan_laws.specs.Frames.{KeepsOwned}
use Rattle.table_steps.specs.Passes.{IsSamePass}
use Rattle.update_try.specs.Parting.{HasParted}
use Rattle.tree_update.proofs.ending.wait_for_others.Given as goal

abbrev pub invariant-looks : goal.invariant-looks
invariant-looks g l =
    HasParted l.pass.view l.pass.number l.parted × KeepsLooks l.pass.view.update.waiting l.waits × KeepsOwned l.fn.pass.view l.pass.view × IsSamePass l.fn.pass l.pass
