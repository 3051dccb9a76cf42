-- A list whose items are changed one after another.
use Rattle.std.proofs.Common.{◌≡◌, ℕ, zero, suc, ◌+◌, ◌<◌, List, [], ◌∷◌, ◌++◌, length, take, drop, get_or, set, map, arith, refl, ap, ◌∙◌}

pub map_step : {X : Type 0} (f : X → X) (xs ys : List X) (i : ℕ) (d : X) → ys ≡ map f (take i xs) ++ drop i xs → i < length xs
    → set ys i (f (get_or ys i d)) ≡ map f (take (i + 1) xs) ++ drop (i + 1) xs
map_step {X = X} f xs ys i d is within = ap (λ zs. set zs i (f (get_or zs i d))) is ∙ step xs i within ∙ ap (λ n. map f (take n xs) ++ drop n xs) (one_more i)
  where
    one_more : (n : ℕ) → suc n ≡ n + 1
    one_more n = omega arith

    step : (xs : List X) (i : ℕ) → i < length xs → set (map f (take i xs) ++ drop i xs) i (f (get_or (map f (take i xs) ++ drop i xs) i d)) ≡ map f (take (suc i) xs) ++ drop (suc i) xs
    step [] i within = absurd (omega (arith, within))
    step (x ∷ xs) zero within = refl
    step (x ∷ xs) (suc i) within = ap (λ zs. f x ∷ zs) (step xs i (omega (arith, within)))
