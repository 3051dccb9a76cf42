-- Helper: the headline does not rest on this file.
-- What holds at each place of a part of a slice that begins at a base.
use Rattle.std.specs.Prelude.{◌≡◌, ℕ, ◌+◌, ◌<◌, List, length, slice_index_or}

-- this holds of each element and its place
abbrev pub AcceptsFrom : {T : Type 0} → (ℕ → T → Type 0) → ℕ → List T → Type 0
AcceptsFrom {T} Accepts base xs = (k : ℕ) (d : T) → k < length xs → Accepts (base + k) (slice_index_or xs k d)

-- this holds of each element before and after, and no element was added or removed
pub record ChangesFrom {T : Type 0} (Changes : ℕ → T → T → Type 0) (base : ℕ) (xs ys : List T) : Type 0 where
  pub as_many : length ys ≡ length xs
  pub each : (k : ℕ) (d : T) → k < length xs → Changes (base + k) (slice_index_or xs k d) (slice_index_or ys k d)
