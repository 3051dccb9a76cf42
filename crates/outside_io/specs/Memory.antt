-- Helper: the headline does not rest on this file.
-- What contracts see of a sink in memory.
use Rattle.std.specs.Prelude.{ℕ, List, ◌++◌, Result, Ok, Err, length, ◌-◌}
use Rattle.outside_io.specs.declared.failed.Failed.{Failed}
use Rattle.outside_io.specs.Streams.{one_more}

-- a sink in memory: what it has taken, the room that is left, and how often it has failed
pub record Store : Type 0 where
  pub taken : List ℕ
  pub room : ℕ
  pub faults : ℕ

abbrev pub store : List ℕ → ℕ → ℕ → Store
store taken room faults = record { taken = taken; room = room; faults = faults }

-- the sink in memory after a write of these bytes: it keeps them all, or counts the fault
abbrev pub after_write : Store → List ℕ → Result ℕ Failed → Store
after_write old bytes (Ok n) = store (old.taken ++ bytes) (old.room - length bytes) old.faults
after_write old bytes (Err failed) = store old.taken old.room (one_more old.faults)
