-- What holds of each item of a list.
use Rattle.std.proofs.Common.{ℕ, zero, suc, ◌<◌, List, [], ◌∷◌, length, get_or, arith}
use Rattle.key_map.specs.Lists.{Every}

pub every_at : {X : Type 0} (P : X → Type 0) (xs : List X) → Every P xs → (i : ℕ) (d : X) → i < length xs → P (get_or xs i d)
every_at P [] every i d lt = absurd (omega arith)
every_at P (x ∷ xs) every zero d lt = every.0
every_at P (x ∷ xs) every (suc i) d lt = every_at P xs every.1 i d (omega arith)

pub every_from : {X : Type 0} (P : X → Type 0) (xs : List X) → ((i : ℕ) (d : X) → i < length xs → P (get_or xs i d)) → Every P xs
every_from P [] each = tt
every_from P (x ∷ xs) each = (each 0 x (omega arith), every_from P xs (λ i d lt. each (suc i) d (omega arith)))

-- an item of a list that is not empty
pub item_of : {X : Type 0} (xs : List X) (i : ℕ) → i < length xs → X
item_of [] i lt = absurd (omega arith)
item_of (x ∷ xs) i lt = x
