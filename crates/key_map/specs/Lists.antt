-- Helper: the headline does not rest on this file.
-- Lists of slots and of pass numbers.
use Rattle.std.specs.Prelude.{◌≡◌, ℕ, ◌+◌, ◌<◌, cond, List, [], ◌∷◌, Bool, ◌==◌, length, slice_index_or}
use Rattle.std.specs.List.{list_any}

-- how often a number occurs in a list
abbrev pub count : ℕ → List ℕ → ℕ
count x [] = 0
count x (y ∷ ys) = cond (y == x) 1 0 + count x ys

-- whether a number occurs in a list
abbrev pub has : ℕ → List ℕ → Bool
has x xs = list_any (λ y. y == x) xs

-- each item has P
abbrev pub Every : {X : Type 0} → (X → Type 0) → List X → Type 0
Every P [] = Unit {0}
Every P (x ∷ xs) = P x × Every P xs

-- the item at a place of a list
pub record IsItem {X : Type 0} (xs : List X) (i : ℕ) (x : X) : Type 0 where
  pub within : i < length xs
  pub is : (d : X) → slice_index_or xs i d ≡ x
