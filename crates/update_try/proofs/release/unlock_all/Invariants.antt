use Rattle.std.proofs.Common.{drop}
use Rattle.plan_laws.specs.Frames.{KeepsOwned}
use Rattle.plan_laws.specs.Releases.{IsReleasing}
use Rattle.table_steps.specs.Passes.{IsSamePass}
use Rattle.update_try.proofs.release.unlock_all.Given as goal

abbrev pub invariant-locks : goal.invariant-locks
invariant-locks l = IsReleasing l.pass.view l.fn.pass.number (drop l.node-index l.nodes) × KeepsOwned l.fn.pass.view l.pass.view × IsSamePass l.fn.pass l.pass
