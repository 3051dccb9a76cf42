-- Helper: the headline does not rest on this file.
-- How a call of a standard stream is counted.
use Rattle.std.specs.Prelude.{ℕ, Result, Ok, Err}
use Rattle.outside_io.specs.declared.failed.Failed.{Failed}
use Rattle.outside_io.specs.Streams.{one_more}

-- the count after a call: it counts a failure, and nothing else
abbrev pub count_after : ℕ → Result ℕ Failed → ℕ
count_after count (Ok n) = count
count_after count (Err failed) = one_more count
