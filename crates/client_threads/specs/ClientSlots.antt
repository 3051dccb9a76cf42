-- Helper: the headline does not rest on this file.
-- Which numbers of node slots can be named.
use Rattle.std.specs.Prelude.{ℕ, ◌<◌, ◌≤◌, Option, IfSome}

-- if a number of node slots is named, it is one that can be named
abbrev pub IsNamable : Option ℕ → Type 0
IsNamable named = IfSome named (λ n. (0 < n) × (n ≤ 8192))
