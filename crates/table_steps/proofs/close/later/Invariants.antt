use Rattle.std.proofs.Common.{◌≡◌, ℕ, ◌<◌, ◌≤◌, Some}
use Rattle.std.specs.List.{slice_get}
use Rattle.table_steps.specs.declared.own_updates.OwnUpdate.{OwnUpdate}
use Rattle.table_steps.proofs.close.later.Given as goal

abbrev pub invariant-loop-own : goal.invariant-loop-own
invariant-loop-own l =
    (l.initial.last ≤ l.last)
    × (((k : ℕ) (u : OwnUpdate) → k < l.own-index → slice_get l.updates k ≡ Some u → u.at ≤ l.last)
    × ((limit : ℕ) → l.initial.last ≤ limit → ((k : ℕ) (u : OwnUpdate) → slice_get l.updates k ≡ Some u → u.at ≤ limit) → l.last ≤ limit))
