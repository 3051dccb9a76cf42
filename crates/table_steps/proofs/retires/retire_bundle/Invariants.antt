use Rattle.std.proofs.Common.{◌≡◌, ℕ, ◌≤◌, List, [], length, take, drop}
use Rattle.table_steps.specs.Raises.{HoldsChain}
use Rattle.table_steps.specs.Retires.{with_retired}
use Rattle.table_steps.proofs.retires.retire_bundle.Given as goal

abbrev pub invariant-loop-done : goal.invariant-loop-done
invariant-loop-done l =
    (l.seat ≡ l.initial.seat) × ((node : ℕ) (es : List ℕ) → HoldsChain l.initial.seat.view node l.head es
    → (l.done ≤ length es) × HoldsChain l.initial.seat.view node l.entry (drop l.done es) × (l.slots ≡ with_retired [] (take l.done es) l.initial.slots))
