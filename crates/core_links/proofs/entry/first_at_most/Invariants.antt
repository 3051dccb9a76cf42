use Rattle.std.proofs.Common.{ℕ, ◌<◌, get_or}
use Rattle.core_links.specs.declared.entry.Entry.{Entry}
use Rattle.core_links.proofs.entry.first_at_most.Given as goal

abbrev pub invariant-loop-place : goal.invariant-loop-place
invariant-loop-place l = (k : ℕ) (d : Entry) → k < l.place → l.t < (get_or l.bundle k d).stamp
