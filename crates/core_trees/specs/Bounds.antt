-- The half-open bounds that two optional keys give: the keys that lie strictly between the two.
use Rattle.std.specs.Prelude.{ℕ, ◌+◌, ◌^◌, Option, Some, None}

abbrev pub low_above : Option ℕ → ℕ
low_above None = 0
low_above (Some key) = key + 1

abbrev pub high_below : Option ℕ → ℕ
high_below None = 2 ^ 64
high_below (Some key) = key
