use Rattle.std.proofs.Common.{◌≡◌, Some, slice_index_or}
use Rattle.std.specs.List.{slice_get}
use Rattle.std.proofs.lemmas.Option.{slice_get-get_or}
use Rattle.plan_laws.proofs.Frames.{keeps_owned}
use Rattle.update_try.proofs.Steps.{same_more, may_unlock, unlocked_next}
use Rattle.update_try.proofs.release.unlock_all.Goals as goal

pub unlock-requires : goal.unlock-requires
unlock-requires c =
    let nodes = c.args.nodes.now in
    record { may = may_unlock c.locks.pass.view c.args.pass.now.number _ c.locks.node-index nodes c.locks.invariant.0 (slice_get-get_or nodes c.locks.node-index 0 c.locks-test.true) }

pub locks-preserved : goal.locks-preserved
locks-preserved c =
    let nodes = c.args.nodes.now in
    let is : slice_get nodes c.locks.node-index ≡ Some (slice_index_or nodes c.locks.node-index 0) = slice_get-get_or nodes c.locks.node-index 0 c.locks-test.true in
    let next = unlocked_next c.locks.pass.view c.unlock.new.self.view c.args.pass.now.number _ c.locks.node-index nodes c.locks.invariant.0 is c.unlock.ensures.view in (
      next.0,
      keeps_owned c.args.pass.now.view c.locks.pass.view c.unlock.new.self.view c.locks.invariant.1 next.1,
      same_more c.args.pass.now c.locks.pass c.unlock.new.self c.locks.invariant.2 c.unlock.ensures.same,
    )
