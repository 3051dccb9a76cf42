-- Helper: the headline does not rest on this file.
-- A source and a sink that fail by a plan.
use Rattle.std.specs.Prelude.{ℕ, ◌-◌, ◌==◌, List, ◌++◌, take, drop, min, nat_le, if◌then◌else◌, Option, Some, None, Result, Ok, Err}
use Rattle.outside_io.specs.declared.failed.Failed.{Failed}
use Rattle.outside_io.specs.Streams.{one_more}

-- what is left, the most bytes of a read, the reads that fail, counted from 1, and how many reads and
-- faults there were
pub record Plan : Type 0 where
  pub rest : List ℕ
  pub step : ℕ
  pub fails : List ℕ
  pub reads : ℕ
  pub faults : ℕ

abbrev pub plan : List ℕ → ℕ → List ℕ → ℕ → ℕ → Plan
plan rest step fails reads faults = record { rest = rest; step = step; fails = fails; reads = reads; faults = faults }

-- the source after its next read: it has lost the bytes that were given, or counts the fault
abbrev pub after_read : Plan → Result ℕ Failed → Plan
after_read old (Ok n) = plan (drop n old.rest) old.step old.fails (one_more old.reads) old.faults
after_read old (Err failed) = plan old.rest old.step old.fails (one_more old.reads) (one_more old.faults)

-- what a sink that fails by a plan has taken, the room that is left, the most bytes of a write, where there
-- is such a bound, the writes that fail, counted from 1, and how many writes and faults there were
pub record SinkPlan : Type 0 where
  pub taken : List ℕ
  pub room : ℕ
  pub step : Option ℕ
  pub fails : List ℕ
  pub writes : ℕ
  pub faults : ℕ

abbrev pub sink_plan : List ℕ → ℕ → Option ℕ → List ℕ → ℕ → ℕ → SinkPlan
sink_plan taken room step fails writes faults = record { taken = taken; room = room; step = step; fails = fails; writes = writes; faults = faults }

-- how many of so many bytes the room lets in: without a bound on the piece it comes whole or not at all, with
-- one as much as fits, and none at all where there is no room for a byte
abbrev pub let_in : Option ℕ → ℕ → ℕ → Option ℕ
let_in None room offered = if nat_le offered room then Some offered else None
let_in (Some step) room offered = if offered == 0 then Some 0 else if room == 0 then None else Some (min (min offered step) room)

-- the sink after its next write: it has taken the first bytes of the piece, or counts the fault
abbrev pub after_piece : SinkPlan → List ℕ → Result ℕ Failed → SinkPlan
after_piece old bytes (Ok n) = sink_plan (old.taken ++ take n bytes) (old.room - n) old.step old.fails (one_more old.writes) old.faults
after_piece old bytes (Err failed) = sink_plan old.taken old.room old.step old.fails (one_more old.writes) (one_more old.faults)
