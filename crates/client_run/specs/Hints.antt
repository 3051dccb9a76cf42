-- Helper: the headline does not rest on this file.
-- Where a directory may have a name.
use Rattle.std.specs.Prelude.{◌≡◌, ℕ, List, length}
use Rattle.key_names.specs.Names.{IsRank}
use Rattle.client_run.specs.declared.hints.Hint.{Hint}

-- the hint is right for this name: it stands at the rank, and has this many bytes
pub record IsRightHint (dir : List (List ℕ)) (name : List ℕ) (hint : Hint) : Type 0 where
  pub there : IsRank dir name hint.rank
  pub bytes : hint.len ≡ length name
