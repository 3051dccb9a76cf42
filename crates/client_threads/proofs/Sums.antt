-- Sums over lists, as loops count them.
use Rattle.std.proofs.Common.{◌≡◌, ℕ, ◌+◌, ◌<◌, ◌≤◌, ◌^◌, List, length, get_or, take, ap, ◌∙◌, arith}
use Rattle.std.specs.List.{sum_by}
use Rattle.std.proofs.lemmas.List.{take_all}
use Rattle.std.proofs.lemmas.List.Sums.{sum_by_more, sum_by_more_le}

module _ {X : Type 0} (f : X → ℕ) (xs : List X) (i : ℕ) (x d : X) (so_far : ℕ) (before : so_far ≡ sum_by f (take i xs)) (is : x ≡ get_or xs i d) (within : i < length xs) where
  -- the next element can be added to those before it, if all fit
  pub next_fits : sum_by f xs < 2 ^ 64 → so_far + f x < 2 ^ 64
  next_fits fits = omega (arith, before, ap f is, sum_by_more_le f xs i d within, fits)

  pub one_fits : sum_by f xs < 2 ^ 64 → f x < 2 ^ 64
  one_fits fits = omega (arith, before, ap f is, sum_by_more_le f xs i d within, fits)

  -- and is counted
  pub next_counted : so_far + f x ≡ sum_by f (take (i + 1) xs)
  next_counted = omega (arith, before, ap f is, sum_by_more f xs i d within)

-- at the end all are counted
pub all_counted : {X : Type 0} (f : X → ℕ) (xs : List X) (i so_far : ℕ) → so_far ≡ sum_by f (take i xs) → length xs ≤ i → so_far ≡ sum_by f xs
all_counted f xs i so_far before end = before ∙ ap (sum_by f) (take_all i xs end)
