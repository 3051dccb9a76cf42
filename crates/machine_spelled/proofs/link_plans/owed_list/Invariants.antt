use Rattle.std.proofs.Common.{◌≡◌, take}
use Rattle.core_events.specs.PlainWork.{made_null}
use Rattle.machine_spelled.proofs.link_plans.owed_list.Given as goal

abbrev pub invariant-loop-link : goal.invariant-loop-link
invariant-loop-link l = l.owed ≡ made_null (take l.link-index l.links)
