-- The seats that the threads leave are all seats of the depot again.
use Rattle.std.proofs.Common.{◌≡◌, ℕ, zero, suc, ◌<◌, List, [], ◌∷◌, length, get_or, map, refl, ap, ◌∙◌, arith}
use Rattle.std.specs.Prelude.{All}
use Rattle.slot_depot.specs.Depots.{Opened, Seated, IsSameSeat, AreAllSeats}
use Rattle.slot_depot.proofs.Kept.{all_kept}
use Rattle.depot_runs.specs.declared.run.Worked.{Worked}
use Rattle.depot_runs.specs.Runs.{AreLeft, seat_of}

length-seats : (left : List Worked) → length (map seat_of left) ≡ length left
length-seats [] = refl
length-seats (w ∷ left) = ap suc (length-seats left)

pub all_back : (depot : Opened) (seats : List Seated) (left : List Worked) → AreAllSeats depot seats → AreLeft seats left → AreAllSeats depot (map seat_of left)
all_back depot seats left all worked = all_kept depot seats (map seat_of left) all (length-seats left ∙ worked.one_each) same
  where
    goes : (x : Seated) (s : Seated) (ws : List Worked) (k : ℕ) → ((d : Worked) → IsSameSeat x (seat_of (get_or ws k d))) → k < length ws → IsSameSeat x (get_or (map seat_of ws) k s)
    goes x s [] k each low = absurd (omega (arith, low))
    goes x s (w ∷ ws) zero each low = each w
    goes x s (w ∷ ws) (suc k) each low = goes x s ws k each (omega (arith, low))

    same : (i : ℕ) (s : Seated) → i < length seats → IsSameSeat (get_or seats i s) (get_or (map seat_of left) i s)
    same i s lt = goes (get_or seats i s) s left i (λ d. worked.each i s d lt) (omega (arith, worked.one_each, lt))
