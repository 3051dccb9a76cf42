-- The forms of the command line.
use Rattle.std.specs.Prelude.{◌≡◌, ℕ, ◌<◌, ◌≤◌, ◌⊎◌, List, [], ◌∷◌, ◌++◌, codes, Option, Some, None}
use Rattle.std.specs.Fmt.{decimal}

-- the argument `verb`, followed by the argument `option` with a number from 1 to 8,192 in decimal digits without a
-- leading zero, which is an argument of its own, or follows an equals sign in the same argument
pub record HasOption (verb option : List ℕ) (words : List (List ℕ)) (n : ℕ) : Type 0 where
  pub some : 0 < n
  pub most : n ≤ 8192
  pub spelled : (words ≡ verb ∷ option ∷ decimal n ∷ []) ⊎ (words ≡ verb ∷ (option ++ codes "=" ++ decimal n) ∷ [])

-- the argument `run`, alone or with the node slots that each client is to have: with `--slots` they stay its own,
-- with `--pool` clients hand spare ones to one another
abbrev pub IsRun : List (List ℕ) → Option ℕ → Type 0
IsRun words None = words ≡ codes "run" ∷ []
IsRun words (Some n) = HasOption (codes "run") (codes "--slots") words n ⊎ HasOption (codes "run") (codes "--pool") words n

-- the argument `check`, alone or with a number of node slots
abbrev pub IsCheck : List (List ℕ) → Option ℕ → Type 0
IsCheck words None = words ≡ codes "check" ∷ []
IsCheck words (Some n) = HasOption (codes "check") (codes "--slots") words n

-- the argument `sample`, followed by a number from 1 to 40,000 in decimal digits without a leading zero
pub record IsSample (words : List (List ℕ)) (n : ℕ) : Type 0 where
  pub some : 0 < n
  pub most : n ≤ 40000
  pub spelled : words ≡ codes "sample" ∷ decimal n ∷ []

-- the arguments are a form of the program
abbrev pub HasForm : List (List ℕ) → Type 0
HasForm words = ((slots : Option ℕ) × IsRun words slots) ⊎ (((slots : Option ℕ) × IsCheck words slots) ⊎ ((n : ℕ) × IsSample words n))
