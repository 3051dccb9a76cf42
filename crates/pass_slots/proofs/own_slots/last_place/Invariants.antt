use Rattle.std.proofs.Common.{◌<◌, ◌-◌, length, take, drop}
use Rattle.key_map.specs.Lists.{count}
use Rattle.pass_slots.proofs.own_slots.last_place.Given as goal

abbrev pub invariant-loop-i : goal.invariant-loop-i
invariant-loop-i l = 0 < count l.slot (take (length (drop l.start l.slots.items) - l.i) (drop l.start l.slots.items))
