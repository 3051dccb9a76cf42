use Rattle.std.proofs.Common.{◌≡◌, drop}
use Rattle.core_events.specs.UpdateNeeds.{held_at}
use Rattle.machine_needs.proofs.update_needs.held_at.Given as goal

abbrev pub invariant-loop-held : goal.invariant-loop-held
invariant-loop-held l = held_at l.node l.nodes ≡ held_at l.node (drop l.held-index l.nodes)
