use Rattle.std.proofs.Common.{◌≡◌, ℕ, ◌<◌, List, length, Some}
use Rattle.std.specs.List.{slice_get}
use Rattle.key_map.specs.declared.update.Update.{Update}
use Rattle.key_map.specs.Lists.{Every}
use Rattle.core_invariant.specs.Histories.{update_at}
use Rattle.table_steps.specs.Closes.{IsRightAt, StaysRight}
use Rattle.table_steps.specs.declared.own_updates.OwnUpdate.{OwnUpdate}
use Rattle.table_steps.proofs.close.put_at_places.Given as goal

abbrev pub invariant-loop-own : goal.invariant-loop-own
invariant-loop-own l =
    (length l.history ≡ length l.initial.history)
    × ((all : List Update) → Every (λ (u : OwnUpdate). update_at all u.at ≡ Some u.update) l.updates
    → StaysRight all l.initial.history l.history × ((k : ℕ) (u : OwnUpdate) → k < l.own-index → slice_get l.updates k ≡ Some u → IsRightAt all l.history u.at))
