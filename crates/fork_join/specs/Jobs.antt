-- Helper: the headline does not rest on this file.
-- What calls have given for a part of the jobs.
use Rattle.std.specs.Prelude.{◌≡◌, ℕ, ◌<◌, List, length, slice_index_or}
use denote.Param.Members.{Shared}
use Rattle.std.specs.Fork.{GivesJob}

-- as many results as jobs, each one that a call of f may give with the job at its place
pub record GivesFor {F J R : Type 0} (g : Shared F (J × Unit {0}) R) (f : F) (jobs : List J) (results : List R) : Type 0 where
  pub as_many : length results ≡ length jobs
  pub each : (i : ℕ) (d : R) → i < length jobs → GivesJob g f jobs i (slice_index_or results i d)
